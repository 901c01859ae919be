-- The rows of the table of inventories.
use Rattle.std.specs.Prelude.{ℕ, true, List, map, length, get_or}
use Rattle.ac_base.specs.Names.{class_bytes}
use Rattle.ac_base.specs.Texts.{text_cmp}
use Rattle.ac_base.specs.Quantities.{InventoryNumbers}
use Rattle.ac_base.specs.declared.name.ClassName.{ClassName}
use Rattle.ac_tables.specs.Tables.InventoryTable.{InventoryRecord}
use Rattle.ac_tables.specs.Reader.TableRows.{row_shown, IsTable}
use Rattle.ac_tables.specs.declared.reader.row.TableRow.{TableRow}

-- what a row of the table of inventories shows
abbrev pub inventory_shown : List ℕ → ℕ → ClassName → InventoryNumbers → InventoryRecord
inventory_shown ids place key value = record { provider = get_or ids place 0; class = class_bytes key; inventory = value }

-- these rows are the inventories that are said, in order
abbrev pub AreInventories : List ℕ → List InventoryRecord → List (TableRow ClassName InventoryNumbers) → Type 0
AreInventories ids said rows = IsTable (λ a b. text_cmp (class_bytes a) (class_bytes b)) (inventory_shown ids) (length ids) true said rows

-- what rows of inventories show, in their order
abbrev pub inventory_records_shown : List ℕ → List (TableRow ClassName InventoryNumbers) → List InventoryRecord
inventory_records_shown ids rows = map (row_shown (inventory_shown ids)) rows

-- the class of a row, and what is told of it
abbrev pub class_pair : {X : Type 0} → TableRow ClassName X → List ℕ × X
class_pair r = (class_bytes r.key, r.value)
