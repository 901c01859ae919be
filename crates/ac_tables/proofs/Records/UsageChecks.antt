-- The checks of usages ask of the inventories only which there are.
use Rattle.ac_tables.proofs.Common.{◌≡◌, ◌++◌, ℕ, List, [], ◌∷◌, sym, ap, not, list_any, IsPermutation, Row, first_failing, id_in, text_in, table_checks, InventoryRecord, provider_name, class_name, is_inventory_of, is_one_of, UsageRecord, usage_field_checks}
use Rattle.std.proofs.lemmas.List.Sorted.{list_any-IsPermutation}
use Rattle.ac_tables.specs.Tables.UsageTable.{usage_said, usage_columns, usage_row_checks, used_checks, usages_fault, is_usage}
use Rattle.ac_tables.specs.declared.fault.Table.TheVariants as table
use Rattle.ac_tables.specs.declared.fault.TableKind.TheVariants as kind

same_row_checks : (ids : List ℕ) (a b : List InventoryRecord) → IsPermutation a b → (header : Row) (before : List UsageRecord) (row : Row) → usage_row_checks ids a header before row ≡ usage_row_checks ids b header before row
unfolding usage_row_checks used_checks
same_row_checks ids a b same header before row =
    let id = id_in header provider_name row in
    let class = text_in header class_name row in
    ap (λ t. usage_field_checks header row ++ ((list_any (is_usage (id_in header provider_name row) (text_in header class_name row)) before, kind.Duplicate)
    ∷ (not (is_one_of ids (id_in header provider_name row)), kind.UnknownProvider) ∷ (not t, kind.NoInventory) ∷ []))
    (list_any-IsPermutation (is_inventory_of (id_in header provider_name row) (text_in header class_name row)) a b same)

pub same_checks : (ids : List ℕ) (a b : List InventoryRecord) → IsPermutation a b → usage_row_checks ids a ≡ usage_row_checks ids b
same_checks ids a b same = λ i header before row. same_row_checks ids a b same header before row i

pub same_fault : (ids : List ℕ) (a b : List InventoryRecord) (rows : List Row) → IsPermutation a b
    → first_failing (table_checks table.Usages usage_columns usage_said (usage_row_checks ids b) rows) ≡ usages_fault ids a rows
unfolding usages_fault
same_fault ids a b rows same = ap (λ checks. first_failing (table_checks table.Usages usage_columns usage_said checks rows)) (sym (same_checks ids a b same))
