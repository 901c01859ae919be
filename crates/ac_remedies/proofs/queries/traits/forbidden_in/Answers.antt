use Rattle.std.proofs.Common.{rules, ◌∙◌, List, ℕ, codes, fold, map, refl, ap}
use Rattle.std.specs.Borrow.{Bor}
use Rattle.std.specs.BTreeSet.{insert_key}
use Rattle.std.specs.List.{filter_map}
use Rattle.ac_base.proofs.ShownKeys.{insert_key_shown}
use Rattle.ac_base.specs.Texts.{text_cmp}
use Rattle.ac_query.specs.Texts.{behind}
use Rattle.ac_query.proofs.Fronts.{behind_strip}
use Rattle.ac_query.proofs.Values.Pieces.{next_part, parts_left}
use Rattle.ac_remedies.proofs.NamesOpposed.{kept, passed}
use Rattle.ac_remedies.proofs.queries.traits.forbidden_in.Goals as goal

pub loop-item-preserved-in_ok-insert : goal.loop-item-preserved-in_ok-insert
loop-item-preserved-in_ok-insert c =
    let turn = next_part c.loop-item.item-iterator c.next.new.self c.in-Some.item c.loop-item.invariant.0 c.in-Some.ensures.steps in
    let found = behind_strip (codes "!") c.in-Some.item.now c.strip_prefix.result c.strip_prefix.ensures.cases in
    let name : Bor (List ℕ) → List ℕ = λ k. k.now in
    let names = map name c.loop-item.names.keys in (
      search rules,
      ap (λ ks. fold (insert_key text_cmp) ks (filter_map (behind (codes "!")) (parts_left c.next.new.self)))
          (ap (map name) c.in_ok-insert.ensures.keys ∙ insert_key_shown name _ text_cmp (λ a b. refl) c.loop-item.names.keys _)
          ∙ ap (fold (insert_key text_cmp) names) (kept (behind (codes "!")) _ _ _ turn _ (rw c.in-Some-strip_prefix.is at found))
          ∙ c.loop-item.invariant.1,
    )

pub loop-item-preserved : goal.loop-item-preserved
loop-item-preserved c =
    let turn = next_part c.loop-item.item-iterator c.next.new.self c.in-Some.item c.loop-item.invariant.0 c.in-Some.ensures.steps in
    let found = behind_strip (codes "!") c.in-Some.item.now c.strip_prefix.result c.strip_prefix.ensures.cases in (
      search rules,
      ap (fold (insert_key text_cmp) (map (λ k. k.now) c.loop-item.names.keys)) (passed (behind (codes "!")) _ _ _ turn (rw c.in_default.is at found)) ∙ c.loop-item.invariant.1,
    )
