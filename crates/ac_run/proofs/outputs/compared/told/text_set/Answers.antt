use Rattle.std.proofs.Common.{◌+◌, ◌∙◌, List, ℕ, drop, fold, map, refl, string_bytes, ap, arith}
use Rattle.std.specs.Borrow.{Bor}
use Rattle.std.specs.BTreeSet.{insert_key}
use Rattle.ac_base.proofs.ShownKeys.{insert_key_shown}
use Rattle.ac_base.specs.Texts.{text_cmp}
use Rattle.ac_run.proofs.Comparing.Reading.{next_item}
use Rattle.ac_run.proofs.outputs.compared.told.text_set.Goals as goal

pub loop-text-preserved : goal.loop-text-preserved
loop-text-preserved c =
    let texts = c.deref-text-items.result.now in
    let rest = map string_bytes (drop (c.loop-text.text-index + 1) texts) in
    let shown : Bor (List ℕ) → List ℕ = λ t. t.now in
    let keys = map shown c.loop-text.set.keys in
    ap (λ ks. fold (insert_key text_cmp) ks rest)
    (ap (map shown) c.in_ok-insert.ensures.keys
    ∙ insert_key_shown shown _ text_cmp (λ a b. refl) c.loop-text.set.keys c.as_str.result
    ∙ ap (insert_key text_cmp keys) c.as_str.ensures.value)
    ∙ ap (λ ts. fold (insert_key text_cmp) keys (map string_bytes ts)) (next_item texts c.loop-text.text-index c.text-item.result c.text-item.is (omega arith))
    ∙ c.loop-text.invariant
