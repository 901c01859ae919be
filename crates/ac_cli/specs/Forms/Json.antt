-- A JSON list of objects, one for each row: its members are the cells, each under the name of its column.
use Rattle.std.specs.Prelude.{ℕ, List, [], ◌∷◌, ◌++◌, get_or, length}
use Rattle.std.specs.List.{range_with_len}
use Rattle.serde_json.specs.Data.{Data, Items, Members, array, item, no_items, no_members, object, put, string}
use Rattle.serde_json.specs.Written.{compact_text}

-- the members of a row at these places, with those that are there; of two columns with one name the later counts
abbrev pub with_members : List (List ℕ) → List (List ℕ) → List ℕ → Members → Members
with_members header row [] members = members
with_members header row (i ∷ is) members = with_members header row is (put (get_or header i []) (string (get_or row i [])) members)

abbrev pub row_object : List (List ℕ) → List (List ℕ) → Data
row_object header row = object (with_members header row (range_with_len 0 (length header)) no_members)

abbrev pub row_objects : List (List ℕ) → List (List (List ℕ)) → Items
row_objects header [] = no_items
row_objects header (row ∷ rows) = item (row_object header row) (row_objects header rows)

-- an empty list, where there isn't even a header
abbrev pub rows_data : List (List (List ℕ)) → Data
rows_data [] = array no_items
rows_data (header ∷ rows) = array (row_objects header rows)

-- its text, and a newline
abbrev pub json_text : List (List (List ℕ)) → List ℕ
json_text rows = compact_text (rows_data rows) ++ 10 ∷ []
