-- A table that stands beside the five: its first fault, and what is told of it.
use Rattle.std.specs.Prelude.{◌≡◌, ⊤, ℕ, ◌+◌, List, [], ◌∷◌, map, Option, Some, None}
use Rattle.std.specs.Option.{option_map, option_or}
use Rattle.ac_tables.specs.Tables.Checks.{Row, Check, first_failing}
use Rattle.ac_tables.specs.Tables.Columns.{header_kind}
use Rattle.ac_tables.specs.Tables.Names.{name_of}
use Rattle.ac_tables.specs.declared.beside.BesideFault.{BesideFault}
use Rattle.ac_tables.specs.declared.beside.BesideFault.TheVariants as fault
use Rattle.ac_tables.specs.declared.columns.Column.{Column}
use Rattle.ac_tables.specs.declared.fault.TableKind.{TableKind}

-- the first record with a fault, of some of which the first has this number
abbrev pub first_bad : (Row → List Check) → ℕ → List Row → Option (ℕ × TableKind)
first_bad checks number [] = None
first_bad checks number (row ∷ rows) = option_or (option_map (λ kind. (number, kind)) (first_failing (checks row))) (first_bad checks (number + 1) rows)

-- of the records behind a header, which is the first
abbrev pub records_bad : (Row → Row → List Check) → List Row → Option (ℕ × TableKind)
records_bad checks [] = None
records_bad checks (header ∷ rows) = first_bad (checks header) 2 rows

-- the first fault of a table that needs these columns and has these checks of a record, by the number of its record
unfoldable pub beside_fault : List Column → (Row → Row → List Check) → List Row → Option (ℕ × TableKind)
beside_fault columns checks rows = option_or (option_map (λ kind. (1, kind)) (header_kind (map name_of columns) rows)) (records_bad checks rows)

-- the fault is told, or a growth was refused
abbrev pub TellsBeside : Option (ℕ × TableKind) → BesideFault → Type 0
TellsBeside first (fault.At row kind) = first ≡ Some (row, kind)
TellsBeside first fault.NoMemory = ⊤
