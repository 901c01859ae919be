use Rattle.ac_tables.proofs.Common.{◌∙◌, ◌<◌, ◌==◌, List, map, length, ap, sym, subst, All, filter, range_with_len, InventoryNumbers, ClassName, TableRow}
use Rattle.ac_tables.proofs.Gathered.OwnRows.{own_lists}
use Rattle.ac_tables.proofs.Records.InventoryLists.{inventory_lists_here}
use Rattle.ac_tables.proofs.Sorted.RiseFacts.{inventories_rise}
use Rattle.ac_tables.proofs.tables.inventories.Inventories.new.Goals as goal

pub invariant_of-result-clause-inside : goal.invariant_of-result-clause-inside
invariant_of-result-clause-inside c =
    subst (All (λ (r : TableRow ClassName InventoryNumbers). r.place < length c.args.ids.ids.items)) (sym c.in_ok-rows.ensures.rows) c.requires.said.1.inside

pub invariant_of-result-clause-rise : goal.invariant_of-result-clause-rise
invariant_of-result-clause-rise c =
    let ids = c.args.ids.ids.items in
    let said = c.requires.said.0 in
    let lists = own_lists c.in_ok-rows.rows (length c.args.ids.ids.items) (c.in_ok-rows.ensures.count ∙ c.len.ensures.value)
    ∙ ap (λ (rows : List (TableRow ClassName InventoryNumbers)). map (λ p. filter (λ r. r.place == p) rows) (range_with_len 0 (length c.args.ids.ids.items))) c.in_ok-rows.ensures.rows in
    inventories_rise said ids _ (inventory_lists_here ids c.args.ids.rising said c.args.rows.items c.requires.said.1 _ lists)
