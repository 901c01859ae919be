-- Conditions in an order, of which the first that fails is told.
use Rattle.std.specs.Prelude.{◌≡◌, ⊤, ℕ, ◌+◌, Bool, if◌then◌else◌, List, [], ◌∷◌, ◌++◌, map, length, Option, Some, None, Result, Ok, Err}
use Rattle.std.specs.Option.{option_map}
use Rattle.ac_tables.specs.declared.fault.Table.{Table}
use Rattle.ac_tables.specs.declared.fault.TableKind.{TableKind}
use Rattle.ac_tables.specs.declared.fault.RecordFault.{RecordFault}
use Rattle.ac_tables.specs.declared.fault.RecordFault.TheVariants as record_fault
use Rattle.ac_tables.specs.declared.fault.TableFault.{TableFault}
use Rattle.ac_tables.specs.declared.fault.TableFault.TheVariants as fault

-- A record: the texts of its fields.
abbrev pub Row : Type 0
Row = List (List ℕ)

-- A check: whether it fails, and what it then tells.
abbrev pub Check : Type 0
Check = Bool × TableKind

-- What the first check that fails tells.
abbrev pub first_failing : {X : Type 0} → List (Bool × X) → Option X
first_failing [] = None
first_failing (check ∷ checks) = if check.0 then Some check.1 else first_failing checks

-- the checks of one record, told with their table and record
abbrev pub told_at : Table → ℕ → List Check → List (Bool × TableFault)
told_at table row checks = map (λ check. (check.0, fault.At table row check.1)) checks

-- The checks of records, each beside what the records before it say. Records are numbered from 1, and the header is the first.
abbrev pub record_checks : {V : Type 0} → Table → (Row → V) → (List V → Row → List Check) → List V → List Row → List (Bool × TableFault)
record_checks table value checks before [] = []
record_checks table value checks before (row ∷ rows) =
    told_at table (length before + 2) (checks before row) ++ record_checks table value checks (before ++ value row ∷ []) rows

-- one check over items, the first of which stands in this record
abbrev pub pass : {X : Type 0} → Table → TableKind → (X → Bool) → ℕ → List X → List (Bool × TableFault)
pass table kind fails row [] = []
pass table kind fails row (x ∷ xs) = (fails x, fault.At table row kind) ∷ pass table kind fails (row + 1) xs

-- this value where no check fails, else what the first that fails tells
abbrev pub unless : {X : Type 0} → Option TableKind → X → Result X TableKind
unless None value = Ok value
unless (Some kind) value = Err kind

-- what is told of one record
abbrev pub told : Table → ℕ → Option TableKind → Option TableFault
told table row first = option_map (λ kind. fault.At table row kind) first

-- An answer tells this fault, or that a growth was refused, which says nothing of the input.
abbrev pub Tells : Option TableFault → TableFault → Type 0
Tells first (fault.At table row kind) = first ≡ Some (fault.At table row kind)
Tells first fault.NoMemory = ⊤

-- what records tell, beside what those before them say
unfoldable pub rows_fault : {V : Type 0} → Table → (Row → V) → (List V → Row → List Check) → List V → List Row → Option TableFault
rows_fault table value checks before rows = first_failing (record_checks table value checks before rows)

-- the same of one record alone, before its table and number are said
abbrev pub TellsKind : Option TableKind → RecordFault → Type 0
TellsKind first (record_fault.Kind kind) = first ≡ Some kind
TellsKind first record_fault.NoMemory = ⊤

-- a record's fault, told with its table and number
abbrev pub fault_at : Table → ℕ → RecordFault → TableFault
fault_at table row (record_fault.Kind kind) = fault.At table row kind
fault_at table row record_fault.NoMemory = fault.NoMemory
