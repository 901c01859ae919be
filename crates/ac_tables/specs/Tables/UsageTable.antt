-- The table of usages.
use Rattle.std.specs.Prelude.{Option, ◌&&◌, ℕ, Bool, ◌==◌, not, List, [], ◌∷◌, ◌++◌}
use Rattle.std.specs.List.{list_any}
use Rattle.std.specs.Str.{bytes_eq}
use Rattle.ac_tables.specs.Tables.Checks.{Row, Check, first_failing}
use Rattle.ac_tables.specs.Tables.Columns.{table_checks, said_by, text_in, id_in, number_in, bad_number}
use Rattle.ac_tables.specs.Tables.InventoryTable.{InventoryRecord, provider_name, class_name, owner_checks, class_checks, is_inventory_of}
use Rattle.ac_base.specs.Sorted.{is_one_of}
use Rattle.ac_tables.specs.Tables.Names.{name_of, names_needed}
use Rattle.ac_tables.specs.declared.columns.Column.TheVariants as column
use Rattle.ac_tables.specs.declared.fault.Table.TheVariants as table
use Rattle.ac_tables.specs.declared.fault.TableKind.TheVariants as kind
use Rattle.ac_tables.specs.declared.fault.TableFault.{TableFault}

-- what a record says: how much of a provider's class is used
pub record UsageRecord : Type 0 where
  pub provider : ℕ
  pub class : List ℕ
  pub amount : ℕ

abbrev pub usage_name : List ℕ
usage_name = name_of column.Usage

-- the needed columns, in the order in which they are checked
abbrev pub usage_columns : List (List ℕ)
usage_columns = names_needed table.Usages

-- what a record says
unfoldable pub usage_said : Row → Row → UsageRecord
usage_said header row = record { provider = id_in header provider_name row; class = text_in header class_name row; amount = number_in header usage_name row }

-- a usage of this provider and class
abbrev pub is_usage : ℕ → List ℕ → UsageRecord → Bool
is_usage id class u = (u.provider == id) && bytes_eq class u.class

-- the check of an amount
unfoldable pub amount_checks : Row → Row → List Check
amount_checks header row = bad_number header usage_name row ∷ []

-- the checks of a record's fields
unfoldable pub usage_field_checks : Row → Row → List Check
usage_field_checks header row = owner_checks header row ++ class_checks header row ++ amount_checks header row

-- the checks of what a record says, beside what is said before it and the inventories
unfoldable pub used_checks : List ℕ → List InventoryRecord → List UsageRecord → ℕ → List ℕ → List Check
used_checks ids records before id class =
    (list_any (is_usage id class) before, kind.Duplicate)
    ∷ (not (is_one_of ids id), kind.UnknownProvider)
    ∷ (not (list_any (is_inventory_of id class) records), kind.NoInventory)
    ∷ []

-- the checks of a record, beside the usages before it, where these are the ids of all providers and all inventories
unfoldable pub usage_row_checks : List ℕ → List InventoryRecord → Row → List UsageRecord → Row → List Check
usage_row_checks ids records header before row =
    usage_field_checks header row ++ used_checks ids records before (id_in header provider_name row) (text_in header class_name row)

-- all that the table says, in the order of its records
abbrev pub usages_said : List Row → List UsageRecord
usages_said rows = said_by usage_said rows

-- all checks of the table
abbrev pub usage_checks : List ℕ → List InventoryRecord → List Row → List (Bool × TableFault)
usage_checks ids records rows = table_checks table.Usages usage_columns usage_said (usage_row_checks ids records) rows

-- the first fault of the table
unfoldable pub usages_fault : List ℕ → List InventoryRecord → List Row → Option TableFault
usages_fault ids records rows = first_failing (usage_checks ids records rows)
