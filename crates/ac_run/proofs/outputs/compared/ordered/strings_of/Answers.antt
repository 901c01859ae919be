use Rattle.std.proofs.Common.{◌≡◌, ◌+◌, ◌∙◌, List, ℕ, drop, fold, map, option_map, refl, sym, ap, arith}
use Rattle.std.specs.Borrow.{Bor}
use Rattle.std.specs.BTreeSet.{insert_key}
use Rattle.serde_json.specs.Find.{as_str}
use Rattle.serde_json.specs.View.{view}
use Rattle.ac_base.proofs.ShownKeys.{insert_key_shown}
use Rattle.ac_base.specs.Texts.{text_cmp}
use Rattle.ac_run.specs.Compared.{each}
use Rattle.ac_run.proofs.Comparing.Reading.{gathers_none, gathers_on, next_item}
use Rattle.ac_run.proofs.outputs.compared.ordered.strings_of.Goals as goal

pub returns-in-None : goal.returns-in-None
returns-in-None c =
    let strings = map (λ (t : Bor (List ℕ)). t.now) c.loop-item.strings.keys in
    let items = c.deref-item-items.result.now in
    let rest = map view (drop (c.loop-item.item-index + 1) items) in
    sym (gathers_none as_str (fold (insert_key text_cmp)) strings (view c.item-item.result) rest (sym (rw c.in-None.is at c.as_str.ensures)))
    ∙ ap (λ xs. option_map (fold (insert_key text_cmp) strings) (each as_str (map view xs))) (next_item items c.loop-item.item-index c.item-item.result c.item-item.is (omega arith))
    ∙ c.loop-item.invariant

pub loop-item-preserved : goal.loop-item-preserved
loop-item-preserved c =
    let shown : Bor (List ℕ) → List ℕ = λ t. t.now in
    let strings = map shown c.loop-item.strings.keys in
    let items = c.deref-item-items.result.now in
    let rest = map view (drop (c.loop-item.item-index + 1) items) in
    let more = map shown c.insert.new.self.keys in
    let inserted : more ≡ insert_key text_cmp strings c.in-Some.text.now =
    ap (map shown) c.in_ok-insert-in-Some.ensures.keys ∙ insert_key_shown shown _ text_cmp (λ a b. refl) c.loop-item.strings.keys c.in-Some.text in
    sym (gathers_on as_str (fold (insert_key text_cmp)) strings more (view c.item-item.result) rest c.in-Some.text.now (sym (rw c.in-Some.is at c.as_str.ensures))
    (λ ts. ap (λ ks. fold (insert_key text_cmp) ks ts) (sym inserted)))
    ∙ ap (λ xs. option_map (fold (insert_key text_cmp) strings) (each as_str (map view xs))) (next_item items c.loop-item.item-index c.item-item.result c.item-item.is (omega arith))
    ∙ c.loop-item.invariant
