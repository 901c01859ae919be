-- The table of names of aggregates.
use Rattle.std.specs.Prelude.{ℕ, List, [], ◌∷◌, Option}
use Rattle.ac_tables.specs.Beside.{beside_fault}
use Rattle.ac_tables.specs.Tables.Checks.{Row, Check}
use Rattle.ac_tables.specs.Tables.Columns.{bad_id, bad_width, id_in, said_by, text_in}
use Rattle.ac_tables.specs.Tables.ProviderTable.{name_name, uuid_name}
use Rattle.ac_tables.specs.declared.called.Called as rust
use Rattle.ac_tables.specs.declared.columns.Column.{Column}
use Rattle.ac_tables.specs.declared.columns.Column.TheVariants as column
use Rattle.ac_tables.specs.declared.fault.TableKind.{TableKind}

-- the needed columns, in the order in which they are checked
abbrev pub called_columns : List Column
called_columns = column.Uuid ∷ column.Name ∷ []

-- what a record says: the UUID of an aggregate, and a name of it
unfoldable pub name_said : Row → Row → ℕ × List ℕ
name_said header row = (id_in header uuid_name row, text_in header name_name row)

-- the checks of a record
unfoldable pub called_checks : Row → Row → List Check
called_checks header row = bad_width header row ∷ bad_id header uuid_name row ∷ []

-- the first fault of the table, by the number of its record
unfoldable pub called_fault : List Row → Option (ℕ × TableKind)
called_fault rows = beside_fault called_columns called_checks rows

-- all that the table says, in the order of its records
unfoldable pub called_said : List Row → List (ℕ × List ℕ)
called_said rows = said_by name_said rows

-- ---- what is kept of it

abbrev pub called_shown : rust.Called → ℕ × List ℕ
called_shown c = (c.id, c.name.items)
