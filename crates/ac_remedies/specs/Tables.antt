-- The second line of a fault of a table: its path, where in it the fault stands, and what to do.
pub mod Columns
pub mod Places
use Rattle.std.specs.Prelude.{ℕ, List, [], ◌∷◌, codes, Option, None, Some}
use Rattle.std.specs.List.{flat_map}
use Rattle.std.specs.Option.{option_map_or}
use Rattle.ac_tables.specs.Found.{beside_header, records_in}
use Rattle.ac_tables.specs.Tables.{Tables}
use Rattle.ac_tables.specs.Tables.Checks.{Row}
use Rattle.ac_tables.specs.declared.fault.Table.{Table}
use Rattle.ac_tables.specs.declared.fault.TableKind.{TableKind}
use Rattle.ac_tables.specs.declared.fault.TableKind.TheVariants as kind
use Rattle.ac_remedies.specs.Quoted.{said, shown}
use Rattle.ac_remedies.specs.Tables.Places.{place_text}

-- what to do about a fault of this kind
unfoldable pub remedy_text : TableKind → List ℕ
remedy_text kind.NoHeader = codes "the file has no record; export the table again, with its header"
remedy_text kind.MissingColumn = codes "the header lacks this column; export the table with all its columns"
remedy_text kind.DoubleColumn = codes "the header has this column twice; take one of them out"
remedy_text kind.Width = codes "a record has as many fields as the header; put a field with a comma in quotes"
remedy_text kind.BadUuid = codes "not a UUID; give one of 32 hexadecimal digits, and take out a header between records"
remedy_text kind.BadClass = codes "a class is written A-Z, 0-9 and _; give its name as the cloud has it"
remedy_text kind.BadTrait = codes "a trait is written A-Z, 0-9 and _; give its name as the cloud has it"
remedy_text kind.BadNumber = codes "1 to 10 digits, at most 2147483647; write no sign, point or blank"
remedy_text kind.BadRatio = codes "at most six decimals and no exponent; export with --round-ratios; lower one over 1000000 in the cloud"
remedy_text kind.ZeroStep = codes "a step is at least 1; set step_size to 1 or more in the cloud, and export again"
remedy_text kind.ReservedOverTotal = codes "reserved is at most total; lower it in the cloud, and export again"
remedy_text kind.Duplicate = codes "an earlier record has the same; take one of them out"
remedy_text kind.UnknownProvider = codes "not in the table of providers; export all tables together, or take the record out"
remedy_text kind.NoInventory = codes "the provider has no inventory of this class; export all tables together, or take the record out"
remedy_text kind.TooManyProviders = codes "more than 65536 providers; take whole trees out, in each table"
remedy_text kind.UnknownParent = codes "not in the table of providers; export the whole table"
remedy_text kind.ParentCycle = codes "the parents from here on go in a circle; correct one of them"
remedy_text kind.WrongRoot = codes "not the root of the provider's tree; give the UUID of its topmost parent, or its own if it has none"

-- of a table that is too large, and of one that can't be read, for this reason or for none that is known
unfoldable pub size_text : List ℕ
size_text = codes "more than 67108864 bytes; take out rows that no query asks for"

unfoldable pub unread_text : Option (List ℕ) → List ℕ
unread_text None = codes "reading failed, as it does of a folder; give the path of a file that can be read"
unread_text (Some reason) = said (reason ∷ codes "; give the path of a file that can be read" ∷ [])

-- a path as a terminal can show it, what stands behind it, and what to do
unfoldable pub line_of : List ℕ → List ℕ → List ℕ → List ℕ
line_of path place remedy = said (codes "  " ∷ flat_map shown path ∷ place ∷ codes ": " ∷ remedy ∷ codes "\n" ∷ [])

-- where in a table a fault stands; nothing where there is no such record
unfoldable pub place_in : List Row → Table → ℕ → TableKind → List ℕ
place_in rows t n k = option_map_or (λ found. place_text t k found.0 found.1) (beside_header rows n) []

-- the second line of a fault of a record, of a table that is too large, and of one that can't be read
unfoldable pub record_remedy : List ℕ → Tables → Table → ℕ → TableKind → List ℕ
record_remedy path tables t n k = line_of path (place_in (records_in tables t) t n k) (remedy_text k)

unfoldable pub size_remedy : List ℕ → List ℕ
size_remedy path = line_of path [] size_text

unfoldable pub unread_remedy : List ℕ → Option (List ℕ) → List ℕ
unread_remedy path reason = line_of path [] (unread_text reason)
