-- The columns that a check of a table looks at, and the first of them that breaks it.
use Rattle.std.specs.Prelude.{ℕ, Bool, true, List, [], ◌∷◌, Option}
use Rattle.std.specs.List.{find}
use Rattle.std.specs.Option.{is_none}
use Rattle.ac_base.specs.Texts.{count_value, id_value}
use Rattle.ac_tables.specs.Tables.Checks.{Row}
use Rattle.ac_tables.specs.Tables.Columns.{is_double, is_missing, text_or_none}
use Rattle.ac_tables.specs.Tables.Names.{columns_needed, name_of}
use Rattle.ac_tables.specs.Tables.ProviderTable.{is_bad_parent}
use Rattle.ac_tables.specs.declared.columns.Column.{Column}
use Rattle.ac_tables.specs.declared.columns.Column.TheVariants as column
use Rattle.ac_tables.specs.declared.fault.Table.{Table}
use Rattle.ac_tables.specs.declared.fault.Table.TheVariants as table
use Rattle.ac_tables.specs.declared.fault.TableKind.{TableKind}
use Rattle.ac_tables.specs.declared.fault.TableKind.TheVariants as kind

-- a table's columns of UUIDs and of numbers, in the order in which they are checked
unfoldable pub uuid_columns : Table → List Column
uuid_columns table.Providers = columns_needed table.Providers
uuid_columns table.Aggregates = columns_needed table.Aggregates
uuid_columns _ = column.Owner ∷ []

unfoldable pub number_columns : Table → List Column
number_columns table.Inventories = column.Total ∷ column.Reserved ∷ column.MinUnit ∷ column.MaxUnit ∷ column.StepSize ∷ []
number_columns table.Usages = column.Usage ∷ []
number_columns _ = []

-- that by which a second record of the same thing is known: a provider's own UUID, or a class beside its provider
unfoldable pub key_columns : Table → List Column
key_columns table.Providers = column.Uuid ∷ []
key_columns table.Inventories = column.Class ∷ []
key_columns table.Usages = column.Class ∷ []
key_columns _ = []

-- the columns that a check of this kind looks at; none where it is of a whole record
unfoldable pub columns_of : Table → TableKind → List Column
columns_of t kind.MissingColumn = columns_needed t
columns_of t kind.DoubleColumn = columns_needed t
columns_of t kind.BadUuid = uuid_columns t
columns_of t kind.BadClass = column.Class ∷ []
columns_of t kind.BadTrait = column.Name ∷ []
columns_of t kind.BadNumber = number_columns t
columns_of t kind.BadRatio = column.Ratio ∷ []
columns_of t kind.ZeroStep = column.StepSize ∷ []
columns_of t kind.ReservedOverTotal = column.Reserved ∷ []
columns_of t kind.Duplicate = key_columns t
columns_of t kind.UnknownProvider = column.Owner ∷ []
columns_of t kind.NoInventory = column.Class ∷ []
columns_of t kind.UnknownParent = column.Parent ∷ []
columns_of t kind.ParentCycle = column.Parent ∷ []
columns_of t kind.WrongRoot = column.Root ∷ []
columns_of t _ = []

-- a field that must be a UUID isn't; that of a parent may say that there is none
abbrev pub is_bad_uuid : Column → List ℕ → Bool
is_bad_uuid column.Parent text = is_bad_parent text
is_bad_uuid _ text = is_none (id_value text)

-- whether a column breaks a check of this kind; one that looks at a single column is broken there
unfoldable pub is_broken : TableKind → Row → Row → Column → Bool
is_broken kind.MissingColumn header row c = is_missing header (name_of c)
is_broken kind.DoubleColumn header row c = is_double header (name_of c)
is_broken kind.BadUuid header row c = is_bad_uuid c (text_or_none header (name_of c) row)
is_broken kind.BadNumber header row c = is_none (count_value (text_or_none header (name_of c) row))
is_broken _ header row c = true

-- the first of these columns that does
abbrev pub first_broken : List Column → TableKind → Row → Row → Option Column
first_broken columns k header row = find (is_broken k header row) columns
