-- The table of inventories.
use Rattle.std.specs.Prelude.{◌&&◌, ℕ, Bool, ◌==◌, not, nat_lt, Option, List, [], ◌∷◌, ◌++◌}
use Rattle.std.specs.Option.{unwrap_or, is_none}
use Rattle.std.specs.List.{list_any}
use Rattle.std.specs.Str.{bytes_eq}
use Rattle.ac_base.specs.Texts.{name_value, ratio_value}
use Rattle.ac_base.specs.Quantities.{InventoryNumbers}
use Rattle.ac_base.specs.Sorted.{is_one_of}
use Rattle.ac_tables.specs.Tables.Checks.{Row, Check, first_failing}
use Rattle.ac_tables.specs.Tables.Columns.{table_checks, said_by, text_in, id_in, number_in, bad_width, bad_id, bad_number}
use Rattle.ac_tables.specs.Tables.Names.{name_of, names_needed}
use Rattle.ac_tables.specs.declared.columns.Column.TheVariants as column
use Rattle.ac_tables.specs.declared.fault.Table.TheVariants as table
use Rattle.ac_tables.specs.declared.fault.TableKind.TheVariants as kind
use Rattle.ac_tables.specs.declared.fault.TableFault.{TableFault}

-- what a record says: what a provider has of a class
pub record InventoryRecord : Type 0 where
  pub provider : ℕ
  pub class : List ℕ
  pub inventory : InventoryNumbers

abbrev pub provider_name : List ℕ
provider_name = name_of column.Owner

abbrev pub class_name : List ℕ
class_name = name_of column.Class

abbrev pub total_name : List ℕ
total_name = name_of column.Total

abbrev pub reserved_name : List ℕ
reserved_name = name_of column.Reserved

abbrev pub min_unit_name : List ℕ
min_unit_name = name_of column.MinUnit

abbrev pub max_unit_name : List ℕ
max_unit_name = name_of column.MaxUnit

abbrev pub step_size_name : List ℕ
step_size_name = name_of column.StepSize

abbrev pub ratio_name : List ℕ
ratio_name = name_of column.Ratio

-- the needed columns, in the order in which they are checked
abbrev pub inventory_columns : List (List ℕ)
inventory_columns = names_needed table.Inventories

-- what a record says; 0 stands for what is no value, and a check tells that
unfoldable pub numbers_said : Row → Row → InventoryNumbers
numbers_said header row = record {
  total = number_in header total_name row;
  reserved = number_in header reserved_name row;
  min_unit = number_in header min_unit_name row;
  max_unit = number_in header max_unit_name row;
  step_size = number_in header step_size_name row;
  ratio = unwrap_or (ratio_value (text_in header ratio_name row)) 0;
}

unfoldable pub inventory_said : Row → Row → InventoryRecord
inventory_said header row = record { provider = id_in header provider_name row; class = text_in header class_name row; inventory = numbers_said header row }

-- a field that isn't the name of a class
abbrev pub bad_class : Row → Row → Check
bad_class header row = (is_none (name_value (text_in header class_name row)), kind.BadClass)

-- an inventory of this provider and class
abbrev pub is_inventory_of : ℕ → List ℕ → InventoryRecord → Bool
is_inventory_of id class h = (h.provider == id) && bytes_eq class h.class

-- the checks of the fields of a inventory
unfoldable pub number_checks : Row → Row → List Check
number_checks header row =
    bad_number header total_name row ∷ bad_number header reserved_name row ∷ bad_number header min_unit_name row ∷ bad_number header max_unit_name row
    ∷ bad_number header step_size_name row
    ∷ (is_none (ratio_value (text_in header ratio_name row)), kind.BadRatio)
    ∷ (number_in header step_size_name row == 0, kind.ZeroStep)
    ∷ (nat_lt (number_in header total_name row) (number_in header reserved_name row), kind.ReservedOverTotal)
    ∷ []

-- the checks with which each record begins that belongs to a provider
unfoldable pub owner_checks : Row → Row → List Check
owner_checks header row = bad_width header row ∷ bad_id header provider_name row ∷ []

-- the check of a class
unfoldable pub class_checks : Row → Row → List Check
class_checks header row = bad_class header row ∷ []

-- the checks of a record's fields
unfoldable pub inventory_field_checks : Row → Row → List Check
inventory_field_checks header row = owner_checks header row ++ class_checks header row ++ number_checks header row

-- the checks of what a record says, beside what is said before it
unfoldable pub once_checks : List ℕ → List InventoryRecord → ℕ → List ℕ → List Check
once_checks ids before id class = (list_any (is_inventory_of id class) before, kind.Duplicate) ∷ (not (is_one_of ids id), kind.UnknownProvider) ∷ []

-- the check that a provider is there
unfoldable pub known_checks : List ℕ → ℕ → List Check
known_checks ids id = (not (is_one_of ids id), kind.UnknownProvider) ∷ []

-- the checks of a record, beside the inventories before it, where these are the ids of all providers
unfoldable pub inventory_record_checks : List ℕ → Row → List InventoryRecord → Row → List Check
inventory_record_checks ids header before row =
    inventory_field_checks header row ++ once_checks ids before (id_in header provider_name row) (text_in header class_name row)

-- all that the table says, in the order of its records
abbrev pub inventories_said : List Row → List InventoryRecord
inventories_said rows = said_by inventory_said rows

-- all checks of the table
abbrev pub inventory_checks : List ℕ → List Row → List (Bool × TableFault)
inventory_checks ids rows = table_checks table.Inventories inventory_columns inventory_said (inventory_record_checks ids) rows

-- the first fault of the table
unfoldable pub inventories_fault : List ℕ → List Row → Option TableFault
inventories_fault ids rows = first_failing (inventory_checks ids rows)
