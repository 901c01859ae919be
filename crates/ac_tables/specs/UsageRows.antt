-- The table of usages as it stands: a header, and a row for each class of which a provider has some in use, as `csv` writes them.
use Rattle.std.specs.Prelude.{ℕ, Bool, nat_le, nat_lt, List, [], ◌∷◌, map}
use Rattle.std.specs.Fmt.{decimal}
use Rattle.std.specs.List.{filter, flat_map, list_all}
use Rattle.csv.specs.Writing.{default_writer, row_text}
use Rattle.ac_base.specs.Texts.{greatest, id_text}
use Rattle.ac_cloud.specs.World.{Provider, UsedInventory}
use Rattle.ac_tables.specs.Tables.UsageTable.{usage_columns}

-- what a provider has of a class, by the name of the class
abbrev pub Entry : Type 0
Entry = List ℕ × UsedInventory

-- ---- What a table can hold

-- so much may stand in a table
abbrev pub fits_table : Entry → Bool
fits_table e = nat_le e.1.used greatest

-- all that is used of a provider may
abbrev pub entries_fit : Provider → Bool
entries_fit p = list_all fits_table p.entries

-- all that is used may
unfoldable pub usages_fit : List Provider → Bool
usages_fit all = list_all entries_fit all

-- ---- The rows

-- something is used
abbrev pub is_used : Entry → Bool
is_used e = nat_lt 0 e.1.used

-- how much of a class of the provider of this UUID is used
abbrev pub usage_row : ℕ → Entry → List (List ℕ)
usage_row id e = id_text id ∷ e.0 ∷ decimal e.1.used ∷ []

-- the rows of a provider, in the order of its classes
abbrev pub rows_of_provider : Provider → List (List (List ℕ))
rows_of_provider p = map (usage_row p.id) (filter is_used p.entries)

-- the header, by the names that the tables' reader looks for, and all rows, in the order of UUIDs
unfoldable pub usages_text : List Provider → List ℕ
usages_text all = flat_map (row_text default_writer) (usage_columns ∷ flat_map rows_of_provider all)
