-- The names of tables and of what is wrong with them, as they are printed, and of columns, as a header has them.
use Rattle.std.specs.Prelude.{ℕ, List, [], ◌∷◌, codes, map}
use Rattle.ac_tables.specs.declared.columns.Column.{Column}
use Rattle.ac_tables.specs.declared.columns.Column.TheVariants as column
use Rattle.ac_tables.specs.declared.fault.Table.{Table}
use Rattle.ac_tables.specs.declared.fault.Table.TheVariants as table
use Rattle.ac_tables.specs.declared.fault.TableKind.{TableKind}
use Rattle.ac_tables.specs.declared.fault.TableKind.TheVariants as kind

-- the name of a table, and of what is wrong with one
unfoldable pub table_name : Table → List ℕ
table_name table.Providers = codes "providers"
table_name table.Inventories = codes "inventories"
table_name table.Usages = codes "usages"
table_name table.Traits = codes "traits"
table_name table.Aggregates = codes "aggregates"

unfoldable pub kind_name : TableKind → List ℕ
kind_name kind.NoHeader = codes "NoHeader"
kind_name kind.MissingColumn = codes "MissingColumn"
kind_name kind.DoubleColumn = codes "DoubleColumn"
kind_name kind.Width = codes "Width"
kind_name kind.BadUuid = codes "BadUuid"
kind_name kind.BadClass = codes "BadClass"
kind_name kind.BadTrait = codes "BadTrait"
kind_name kind.BadNumber = codes "BadNumber"
kind_name kind.BadRatio = codes "BadRatio"
kind_name kind.ZeroStep = codes "ZeroStep"
kind_name kind.ReservedOverTotal = codes "ReservedOverTotal"
kind_name kind.Duplicate = codes "Duplicate"
kind_name kind.UnknownProvider = codes "UnknownProvider"
kind_name kind.NoInventory = codes "NoInventory"
kind_name kind.TooManyProviders = codes "TooManyProviders"
kind_name kind.UnknownParent = codes "UnknownParent"
kind_name kind.ParentCycle = codes "ParentCycle"
kind_name kind.WrongRoot = codes "WrongRoot"

-- the name of a column
unfoldable pub name_of : Column → List ℕ
name_of column.Uuid = codes "uuid"
name_of column.Root = codes "root_provider_uuid"
name_of column.Parent = codes "parent_provider_uuid"
name_of column.Owner = codes "resource_provider"
name_of column.Class = codes "resource_class"
name_of column.Name = codes "name"
name_of column.Total = codes "total"
name_of column.Reserved = codes "reserved"
name_of column.MinUnit = codes "min_unit"
name_of column.MaxUnit = codes "max_unit"
name_of column.StepSize = codes "step_size"
name_of column.Ratio = codes "allocation_ratio"
name_of column.Usage = codes "usage"
name_of column.Flavor = codes "flavor"
name_of column.Query = codes "query"
name_of column.Wanted = codes "wanted"

-- the columns that a table needs, in the order in which they are checked
unfoldable pub columns_needed : Table → List Column
columns_needed table.Providers = column.Uuid ∷ column.Root ∷ column.Parent ∷ []
columns_needed table.Inventories =
    column.Owner ∷ column.Class ∷ column.Total ∷ column.Reserved ∷ column.MinUnit ∷ column.MaxUnit ∷ column.StepSize ∷ column.Ratio ∷ []
columns_needed table.Usages = column.Owner ∷ column.Class ∷ column.Usage ∷ []
columns_needed table.Traits = column.Owner ∷ column.Name ∷ []
columns_needed table.Aggregates = column.Owner ∷ column.Uuid ∷ []

-- their names
abbrev pub names_needed : Table → List (List ℕ)
names_needed t = map name_of (columns_needed t)
