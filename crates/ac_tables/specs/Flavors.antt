-- The table of flavors: their names, what each asks for, and how many of it are wanted.
use Rattle.std.specs.Prelude.{ℕ, List, [], ◌∷◌, Option, Some}
use Rattle.std.specs.Option.{is_none, unwrap_or}
use Rattle.ac_base.specs.Texts.{count_value}
use Rattle.ac_tables.specs.Beside.{beside_fault}
use Rattle.ac_tables.specs.Tables.Checks.{Row, Check}
use Rattle.ac_tables.specs.Tables.Columns.{bad_width, said_by, text_in, text_or_none}
use Rattle.ac_tables.specs.Tables.Names.{name_of}
use Rattle.ac_tables.specs.declared.columns.Column.{Column}
use Rattle.ac_tables.specs.declared.columns.Column.TheVariants as column
use Rattle.ac_tables.specs.declared.fault.TableKind.{TableKind}
use Rattle.ac_tables.specs.declared.fault.TableKind.TheVariants as kind
use Rattle.ac_tables.specs.declared.flavors.Flavor as rust

-- a flavor: its name, its query, and how many of it are wanted
pub record Flavor : Type 0 where
  pub name : List ℕ
  pub query : List ℕ
  pub wanted : ℕ

-- the needed columns, in the order in which they are checked
abbrev pub flavor_columns : List Column
flavor_columns = column.Flavor ∷ column.Query ∷ []

-- how many are wanted: one, where nothing is said
abbrev pub wanted_value : List ℕ → Option ℕ
wanted_value [] = Some 1
wanted_value text = count_value text

abbrev pub wanted_in : Row → Row → Option ℕ
wanted_in header row = wanted_value (text_or_none header (name_of column.Wanted) row)

-- what a record says
unfoldable pub flavor_said : Row → Row → Flavor
flavor_said header row = record {
  name = text_in header (name_of column.Flavor) row;
  query = text_in header (name_of column.Query) row;
  wanted = unwrap_or (wanted_in header row) 0;
}

-- the checks of a record
unfoldable pub flavor_checks : Row → Row → List Check
flavor_checks header row = bad_width header row ∷ (is_none (wanted_in header row), kind.BadNumber) ∷ []

-- the first fault of the table, by the number of its record
unfoldable pub flavors_fault : List Row → Option (ℕ × TableKind)
flavors_fault rows = beside_fault flavor_columns flavor_checks rows

-- all that the table says, in the order of its records
unfoldable pub flavors_said : List Row → List Flavor
flavors_said rows = said_by flavor_said rows

-- ---- what is kept of it

abbrev pub flavor_shown : rust.Flavor → Flavor
flavor_shown f = record { name = f.name.items; query = f.query.items; wanted = f.wanted }
