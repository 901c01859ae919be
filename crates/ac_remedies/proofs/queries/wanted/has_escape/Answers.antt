use Rattle.std.proofs.Common.{◌≡◌, ◌∙◌, ◌+◌, ◌-◌, ◌||◌, ℕ, List, ap, arith, codes, drop, false, length, nat_eq, sym, take}
use Rattle.std.specs.List.{list_any, range_with_len, starts_with}
use Rattle.std.proofs.lemmas.List.{length-drop, take_all}
use Rattle.ac_cloud.proofs.Ranges.{range_more}
use Rattle.ac_remedies.proofs.queries.wanted.has_escape.Goals as goal

pub loop-at-preserved : goal.loop-at-preserved
loop-at-preserved c =
    let value = c.args.value.now in
    let at = c.loop-at.at in
    let test = λ (at : ℕ). starts_with nat_eq (drop at value) (codes "\\u0026") in
    let whole : take (length value - at) (drop at value) ≡ drop at value = take_all _ _ (omega (arith, length-drop at value)) in
    let here : test at ≡ false =
    ap (λ (rest : List ℕ). starts_with nat_eq rest (codes "\\u0026")) (sym whole) ∙ sym c.starts_with.ensures.value ∙ c.if-starts_with.false in
    let rest = list_any test (range_with_len (at + 1) (length value - (at + 1))) in
    ap (λ b. b || rest) (sym here) ∙ ap (λ (places : List ℕ). list_any test places) (sym (range_more (length value) at (omega (arith, c.loop-at-test.true)))) ∙ c.loop-at.invariant
