use Rattle.ac_base.proofs.Small.{handed_on}
use Rattle.ac_tables.proofs.Common.{◌∙◌, ◌==◌, ℕ, List, map, length, filter, range_with_len, get_or, refl, sym, ap, length-map, length_permutation, class_bytes, text_cmp, ClassName, row_shown, UsageRecord, usages_said, class_pair, inventory_records_shown, same_place, TableRow}
use Rattle.ac_tables.specs.Tables.{amounts_of, rows_given}
use Rattle.ac_tables.specs.declared.fault.Table.TheVariants as table
use Rattle.ac_tables.proofs.Gathered.OwnRows.{own_lists}
use Rattle.ac_tables.proofs.Sorted.ProviderMaps.{shown_map}
use Rattle.ac_tables.proofs.Sorted.RowLists.{of_each}
use Rattle.ac_tables.proofs.Records.UsageChecks.{same_fault}
use Rattle.ac_tables.proofs.tables.usages.read_usages.Goals as goal

abbrev usage_shown : List ℕ → ℕ → ClassName → ℕ → UsageRecord
usage_shown ids place key value = record { provider = get_or ids place 0; class = class_bytes key; amount = value }

pub returns-clause-value : goal.returns-clause-value
unfolding amounts_of
returns-clause-value c =
    let ids = c.args.inventories.now.ids.ids.items in
    let said = usages_said (rows_given table.Usages c.args.text) in
    let lists = own_lists c.in_ok-new.field-0 (length c.args.inventories.now.ids.ids.items) (c.in_ok-new.ensures.count ∙ c.len.ensures.value)
    ∙ ap (λ (rows : List (TableRow ClassName ℕ)). map (λ p. filter (λ r. r.place == p) rows) (range_with_len 0 (length c.args.inventories.now.ids.ids.items))) c.in_ok-new.ensures.rows in
    of_each c.in_ok-rows.rows.items (map class_pair) (amounts_of said) ids _ lists (λ p h.
    shown_map (λ a b. text_cmp (class_bytes a) (class_bytes b)) class_bytes (λ a b. refl) (usage_shown ids) (length ids) said c.in_ok-rows.rows.items c.in_ok-rows.ensures.rows (λ (v : UsageRecord). v.provider) (λ (v : UsageRecord). (v.class, v.amount)) p (get_or ids p 0)
    (λ r inside. same_place ids c.args.inventories.now.ids.rising r.place p inside h)
    (λ r. refl))

pub returns-clause-count : goal.returns-clause-count
returns-clause-count c =
    let table = c.in_ok-rows.ensures.rows in
    ap length c.in_ok-new.ensures.rows ∙ length_permutation table.read c.in_ok-rows.rows.items table.same
    ∙ sym (length-map table.read (row_shown (usage_shown c.args.inventories.now.ids.ids.items))) ∙ ap length table.shows

pub returns-in_err-rows-clause-err : goal.returns-in_err-rows-clause-err
returns-in_err-rows-clause-err c =
    handed_on c.from_residual.result _ _ c.from_residual.ensures.1 (λ records same. rw (← same_fault c.args.inventories.now.ids.ids.items records (inventory_records_shown c.args.inventories.now.ids.ids.items c.args.inventories.now.rows.rows.items) (rows_given table.Usages c.args.text) same) c.in_err-rows.ensures.fault)

pub returns-clause-ok : goal.returns-clause-ok
returns-clause-ok c = λ records same.
    sym (same_fault c.args.inventories.now.ids.ids.items records (inventory_records_shown c.args.inventories.now.ids.ids.items c.args.inventories.now.rows.rows.items) (rows_given table.Usages c.args.text) same)
    ∙ c.in_ok-rows.ensures.ok
