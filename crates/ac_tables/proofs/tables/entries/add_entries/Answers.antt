use Rattle.ac_tables.proofs.Common.{◌∙◌, ◌∷◌, [], ℕ, List, map, ap, ap₂, class_pair, entry_pair, Entry}
use Rattle.ac_tables.proofs.Places.JoinFacts.{entry_more}
use Rattle.ac_tables.proofs.tables.entries.add_entries.Goals as goal

pub loop-row-preserved : goal.loop-row-preserved
loop-row-preserved c =
    let row = c.row-item.result in
    rw c.in_ok-push.ensures.items
    (entry_more (map class_pair c.args.usages.now) c.args.inventories.now c.loop-row.row-index row c.loop-row.entries.items c.new.result c.loop-row-test.true c.row-item.is c.loop-row.invariant
    (ap (λ (e : Entry). entry_pair e ∷ []) c.new.ensures
    ∙ ap₂ (λ (name : List ℕ) (used : ℕ). (name, record { inventory = row.value; used = used }) ∷ []) c.in_ok-clone.ensures.cases (c.from.ensures ∙ c.amount_of-used.ensures)))
