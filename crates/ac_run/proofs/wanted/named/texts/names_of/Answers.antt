use Rattle.std.proofs.Common.{◌≡◌, ◌∙◌, ◌++◌, ◌∷◌, ℕ, List, [], ap, arith, map, subst, sym, take}
use Rattle.std.proofs.lemmas.List.{get_or-map, length-map, take_all, take_more}
use Rattle.ac_report.specs.Called.{AreCalled, Called}
use Rattle.ac_tables.specs.Called.{called_shown}
use Rattle.ac_run.proofs.wanted.named.texts.names_of.Goals as goal

pub loop-one-preserved : goal.loop-one-preserved
loop-one-preserved c =
    let rows = c.args.called.now in
    let one = c.one-item.result in
    let before = take c.loop-one.one-index (map called_shown rows) in
    let shown : ℕ × List ℕ = (one.id, c.deref.result.now) in
    let same : called_shown one ≡ shown = ap (λ name. named one.id name) (sym c.deref.ensures.value) in
    let next = get_or-map called_shown rows c.loop-one.one-index one shown c.loop-one-test.true ∙ ap called_shown (sym c.one-item.is) ∙ same in
    subst (λ (called : Called). AreCalled called c.add.new.self)
    (sym (take_more (map called_shown rows) c.loop-one.one-index shown (omega (arith, c.loop-one-test.true, length-map rows called_shown))
    ∙ ap (λ (x : ℕ × List ℕ). before ++ x ∷ []) next))
    (c.in_ok-add.ensures before c.loop-one.invariant)
  where
    named : ℕ → List ℕ → ℕ × List ℕ
    named id name = (id, name)

pub returns : goal.returns
returns c =
    let rows = c.args.called.now in
    subst (λ (some : Called). AreCalled some c.loop-one.names)
    (take_all c.loop-one.one-index (map called_shown rows) (omega (arith, c.loop-one-test.false, length-map rows called_shown))) c.loop-one.invariant
