-- The rows of a page: a header, and for each list a row for each provider of which something is taken, as `csv` writes them.
use Rattle.std.specs.Prelude.{ℕ, ◌+◌, min, false, List, [], ◌∷◌, ◌++◌, codes, map}
use Rattle.std.specs.Fmt.{decimal}
use Rattle.std.specs.List.{filter, flat_map}
use Rattle.std.specs.Map.{keys_of}
use Rattle.std.specs.Ordering.{nat_cmp}
use Rattle.csv.specs.Writing.{default_writer, row_text}
use Rattle.ac_base.specs.Quantities.{capacity}
use Rattle.ac_base.specs.Sorted.{rising}
use Rattle.ac_base.specs.Texts.{text_cmp}
use Rattle.ac_cloud.specs.World.{UsedInventory, Provider, provider_at}
use Rattle.ac_query.specs.Asked.{Asked}
use Rattle.ac_rules.specs.Placed.{Placed, assigned}
use Rattle.ac_rules.specs.Together.{sum_on}
use Rattle.ac_report.specs.Names.{shown_name}
use Rattle.ac_report.specs.Texts.{joined, with_commas}
use Rattle.ac_report.specs.Trees.{gives, needs_on, provider_text}

-- ---- What stands in the columns

abbrev pub list_columns : List (List ℕ)
list_columns =
    codes "#" ∷ codes "allocation" ∷ codes "resource provider" ∷ codes "inventory used/capacity" ∷ codes "traits" ∷ codes "name" ∷ []

-- texts, joined by commas
abbrev pub joined_by_commas : List (List ℕ) → List ℕ
joined_by_commas texts = joined (with_commas false texts)

-- a class, with all that is needed of it on a provider
abbrev pub amount_text : List Placed → ℕ → List ℕ → List ℕ
amount_text xs ix class = class ++ (codes "=" ++ decimal (sum_on xs ix class))

-- what is taken of a provider, class by class
unfoldable pub allocation_cell : List Placed → ℕ → List ℕ
allocation_cell xs ix = joined_by_commas (map (amount_text xs ix) (rising text_cmp (keys_of (needs_on xs ix))))

-- a class, with how much of it is used, and how much there is
abbrev pub holding_text : List ℕ × UsedInventory → List ℕ
holding_text h = h.0 ++ (codes "=" ++ (decimal h.1.used ++ (codes "/" ++ decimal (capacity h.1.inventory))))

-- the same of each class of which a provider has an inventory
unfoldable pub inventory_cell : List (List ℕ × UsedInventory) → List ℕ
inventory_cell hs = joined_by_commas (map holding_text hs)

unfoldable pub traits_cell : List (List ℕ) → List ℕ
traits_cell names = joined_by_commas names

-- ---- The rows

-- the row of a provider of the list of this number
abbrev pub provider_row : List Provider → List Placed → ℕ → ℕ → List (List ℕ)
provider_row all xs number ix =
    decimal number ∷ allocation_cell xs ix ∷ provider_text all ix ∷ inventory_cell (provider_at all ix).entries ∷ traits_cell (provider_at all ix).traits
    ∷ shown_name (provider_at all ix).name ∷ []

-- the rows of a list: one for each provider of which something is taken, in the order of their UUIDs
abbrev pub rows_of_list : List Provider → Asked → ℕ → List ℕ → List (List (List ℕ))
rows_of_list all asked number list = map (provider_row all (assigned asked list) number) (filter (λ ix. gives (assigned asked list) ix) (rising nat_cmp list))

-- the number behind a number; the last one stays
abbrev pub next_number : ℕ → ℕ
next_number number = min (number + 1) 4294967295

-- the rows of lists, the first of which has this number
abbrev pub rows_of_lists : List Provider → Asked → ℕ → List (List ℕ) → List (List (List ℕ))
rows_of_lists all asked number [] = []
rows_of_lists all asked number (list ∷ more) = rows_of_list all asked number list ++ rows_of_lists all asked (next_number number) more

unfoldable pub list_text : List Provider → Asked → List (List ℕ) → List ℕ
list_text all asked lists = flat_map (row_text default_writer) (list_columns ∷ rows_of_lists all asked 1 lists)

-- ---- Its pieces: the header, and the rows of each list together

abbrev pub header_text : List ℕ
header_text = row_text default_writer list_columns

unfoldable pub block_text : List Provider → Asked → ℕ → List ℕ → List ℕ
block_text all asked number list = flat_map (row_text default_writer) (rows_of_list all asked number list)

abbrev pub blocks : List Provider → Asked → ℕ → List (List ℕ) → List (List ℕ)
blocks all asked number [] = []
blocks all asked number (list ∷ more) = block_text all asked number list ∷ blocks all asked (next_number number) more

abbrev pub list_pieces : List Provider → Asked → List (List ℕ) → List (List ℕ)
list_pieces all asked lists = header_text ∷ blocks all asked 1 lists
