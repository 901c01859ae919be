-- Where in a table a fault stands: a column with its value, and whose record it is.
use Rattle.std.specs.Prelude.{ℕ, if◌then◌else◌, List, [], ◌∷◌, ◌++◌, codes, length}
use Rattle.std.specs.Fmt.{decimal}
use Rattle.std.specs.List.{join_with_byte}
use Rattle.std.specs.Option.{option_map_or}
use Rattle.std.specs.Str.{bytes_eq}
use Rattle.ac_base.specs.Texts.{id_text, id_value, name_value}
use Rattle.ac_tables.specs.Tables.Checks.{Row}
use Rattle.ac_tables.specs.Tables.Columns.{text_or_none}
use Rattle.ac_tables.specs.Tables.Names.{name_of}
use Rattle.ac_tables.specs.declared.columns.Column.{Column}
use Rattle.ac_tables.specs.declared.columns.Column.TheVariants as column
use Rattle.ac_tables.specs.declared.fault.Table.{Table}
use Rattle.ac_tables.specs.declared.fault.Table.TheVariants as table
use Rattle.ac_tables.specs.declared.fault.TableKind.{TableKind}
use Rattle.ac_tables.specs.declared.fault.TableKind.TheVariants as kind
use Rattle.ac_remedies.specs.Quoted.{quoted, said}
use Rattle.ac_remedies.specs.Tables.Columns.{columns_of, first_broken}

-- a column of a record, with its value
unfoldable pub field_text : Row → Row → Column → List ℕ
field_text header row c = said (codes ", " ∷ name_of c ∷ codes " " ∷ quoted (text_or_none header (name_of c) row) ∷ [])

-- how many fields a record has, and how many the header
unfoldable pub width_text : Row → Row → List ℕ
width_text header row = said (codes ", fields " ∷ decimal (length row) ∷ codes ", header " ∷ decimal (length header) ∷ [])

-- the column that says whose record it is
unfoldable pub owner_column : Table → Column
owner_column table.Providers = column.Uuid
owner_column _ = column.Owner

-- a provider and a class behind a comma
unfoldable pub provider_mark : ℕ → List ℕ
provider_mark id = said (codes ", provider " ∷ id_text id ∷ [])

unfoldable pub class_mark : List ℕ → List ℕ
class_mark class = said (codes ", " ∷ class ∷ [])

-- those that a record names, where it names them
unfoldable pub named_provider : Row → Row → Column → List ℕ
named_provider header row c = option_map_or provider_mark (id_value (text_or_none header (name_of c) row)) []

unfoldable pub named_class : Row → Row → List ℕ
named_class header row = option_map_or class_mark (name_value (text_or_none header (name_of column.Class) row)) []

-- the same, unless their column is told already
unfoldable pub provider_text : Table → Row → Row → List ℕ → List ℕ
provider_text t header row told = if bytes_eq told (name_of (owner_column t)) then [] else named_provider header row (owner_column t)

unfoldable pub class_text : Row → Row → List ℕ → List ℕ
class_text header row told = if bytes_eq told (name_of column.Class) then [] else named_class header row

-- whose record it is, but for the column that is told already
unfoldable pub owner_text : Table → Row → Row → List ℕ → List ℕ
owner_text t header row told = provider_text t header row told ++ class_text header row told

-- the fields of a header, with a comma between each two
abbrev pub header_text : Row → List ℕ
header_text header = join_with_byte 44 header

-- a column that the header lacks, with the header
unfoldable pub missing_text : Row → Column → List ℕ
missing_text header c = said (codes ", " ∷ name_of c ∷ codes ", header " ∷ quoted (header_text header) ∷ [])

-- a column that breaks a check, and whose record it is; one that the header has twice stands alone
unfoldable pub broken_text : Table → TableKind → Row → Row → Column → List ℕ
broken_text t kind.MissingColumn header row c = missing_text header c
broken_text t kind.DoubleColumn header row c = codes ", " ++ name_of c
broken_text t kind.ReservedOverTotal header row c =
    field_text header row c ++ field_text header row column.Total ++ owner_text t header row (name_of c)
broken_text t _ header row c = field_text header row c ++ owner_text t header row (name_of c)

-- where a fault of a column stands; where it is of a whole record, whose record it is
unfoldable pub column_place : Table → TableKind → Row → Row → List ℕ
column_place t k header row = option_map_or (broken_text t k header row) (first_broken (columns_of t k) k header row) (owner_text t header row [])

-- where in its table a fault of this kind stands, of this record beside the header
unfoldable pub place_text : Table → TableKind → Row → Row → List ℕ
place_text t kind.NoHeader header row = []
place_text t kind.TooManyProviders header row = []
place_text t kind.Width header row = width_text header row ++ owner_text t header row []
place_text t k header row = column_place t k header row
