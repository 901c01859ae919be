use Rattle.ac_tables.proofs.Common.{◌∙◌, ◌==◌, List, map, length, filter, range_with_len, ap, sym, subst, InventoryRecord, inventories_said, records_of, inventory_shown, inventory_records_shown, IsPermutation, IsPermutation-map, InventoryNumbers, ClassName, row_shown, TableRow}
use Rattle.ac_tables.proofs.Gathered.OwnRows.{own_lists}
use Rattle.ac_tables.proofs.Records.InventoryLists.{inventory_lists_here}
use Rattle.ac_tables.proofs.tables.inventories.Inventories.read.Goals as goal

pub returns-clause-value : goal.returns-clause-value
returns-clause-value c =
    let new = c.in_ok-new.field-0 in
    let lists = own_lists new.rows (length c.args.ids.ids.items) (new.sized ∙ ap length c.in_ok-new.ensures.ids)
    ∙ ap (λ (rows : List (TableRow ClassName InventoryNumbers)). map (λ p. filter (λ r. r.place == p) rows) (range_with_len 0 (length c.args.ids.ids.items))) c.in_ok-new.ensures.rows in
    inventory_lists_here c.args.ids.ids.items c.args.ids.rising (inventories_said (records_of c.args.text.now)) c.in_ok-rows.rows.items c.in_ok-rows.ensures.rows _ lists

pub returns-clause-said : goal.returns-clause-said
returns-clause-said c =
    let ids = c.args.ids.ids.items in
    let said = inventories_said (records_of c.args.text.now) in
    let table = c.in_ok-rows.ensures.rows in
    subst (λ (l : List InventoryRecord). IsPermutation l (inventory_records_shown ids c.in_ok-new.field-0.rows.rows.items)) table.shows
    (subst (λ (l : List (TableRow ClassName InventoryNumbers)). IsPermutation (inventory_records_shown ids table.read) (inventory_records_shown ids l)) (sym c.in_ok-new.ensures.rows)
    (IsPermutation-map (row_shown (inventory_shown ids)) table.read c.in_ok-rows.rows.items table.same))
