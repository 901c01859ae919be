-- Columns, found by their names in the header, and the checks of a header.
use Rattle.std.specs.Prelude.{Some, ℕ, Bool, true, nat_lt, List, [], ◌∷◌, ◌++◌, map, get_or, Option, ◌==◌, not, length}
use Rattle.std.specs.Option.{unwrap_or, is_none, option_map}
use Rattle.std.specs.List.{count_by, position_from}
use Rattle.std.specs.Str.{bytes_eq}
use Rattle.ac_base.specs.Texts.{id_value, count_value}
use Rattle.ac_tables.specs.Tables.Checks.{Row, Check, told, told_at, first_failing, record_checks}
use Rattle.ac_tables.specs.declared.fault.Table.{Table}
use Rattle.ac_tables.specs.declared.fault.TableKind.{TableKind}
use Rattle.ac_tables.specs.declared.fault.TableKind.TheVariants as kind
use Rattle.ac_tables.specs.declared.fault.TableFault.{TableFault}
use Rattle.ac_tables.specs.declared.fault.TableFault.TheVariants as fault

-- the place of the first column of this name
abbrev pub column : Row → List ℕ → Option ℕ
column header name = position_from (bytes_eq name) 0 header

-- a record's text in the column of this name
abbrev pub text_in : Row → List ℕ → Row → List ℕ
text_in header name row = get_or row (unwrap_or (column header name) 0) []

-- a record's text in a column that may be left out, which is empty there
abbrev pub text_or_none : Row → List ℕ → Row → List ℕ
text_or_none header name row = unwrap_or (option_map (λ place. get_or row place []) (column header name)) []

-- a needed column isn't in the header
abbrev pub is_missing : Row → List ℕ → Bool
is_missing header name = is_none (column header name)

-- a needed column is there twice
abbrev pub is_double : Row → List ℕ → Bool
is_double header name = nat_lt 1 (count_by (bytes_eq name) header)

-- the checks of a header that needs these columns: all of them for the first, then all for the second
unfoldable pub header_checks : List (List ℕ) → Row → List Check
header_checks names header =
    map (λ name. (is_missing header name, kind.MissingColumn)) names ++ map (λ name. (is_double header name, kind.DoubleColumn)) names

-- what is wrong with a header that needs these columns
unfoldable pub header_kind : List (List ℕ) → List Row → Option TableKind
header_kind names [] = Some kind.NoHeader
header_kind names (header ∷ rows) = first_failing (header_checks names header)

-- the first fault of a table's header
unfoldable pub header_fault : Table → List (List ℕ) → List Row → Option TableFault
header_fault table names rows = told table 1 (header_kind names rows)

-- All checks of a table of these columns: there is a header, then the header, then its records.
abbrev pub table_checks : {V : Type 0} → Table → List (List ℕ) → (Row → Row → V) → (Row → List V → Row → List Check) → List Row → List (Bool × TableFault)
table_checks table names value checks [] = (true, fault.At table 1 kind.NoHeader) ∷ []
table_checks table names value checks (header ∷ rows) =
    told_at table 1 (header_checks names header) ++ record_checks table (value header) (checks header) [] rows

-- all that the records of a table say, in their order
abbrev pub said_by : {V : Type 0} → (Row → Row → V) → List Row → List V
said_by value [] = []
said_by value (header ∷ rows) = map (value header) rows

-- A field by its column: a UUID, a number. 0 stands for what is none, and a check tells that.
abbrev pub id_in : Row → List ℕ → Row → ℕ
id_in header name row = unwrap_or (id_value (text_in header name row)) 0

abbrev pub number_in : Row → List ℕ → Row → ℕ
number_in header name row = unwrap_or (count_value (text_in header name row)) 0

-- another number of fields than the header
abbrev pub bad_width : Row → Row → Check
bad_width header row = (not (length row == length header), kind.Width)

-- a field that must be a UUID isn't
abbrev pub bad_id : Row → List ℕ → Row → Check
bad_id header name row = (is_none (id_value (text_in header name row)), kind.BadUuid)

-- a field that must be a number isn't
abbrev pub bad_number : Row → List ℕ → Row → Check
bad_number header name row = (is_none (count_value (text_in header name row)), kind.BadNumber)
