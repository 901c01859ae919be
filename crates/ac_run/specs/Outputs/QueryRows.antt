-- How a query is read: a header and a row for each slot, as `csv` writes them; then a line for each parameter of the whole, and one for the query written plainly.
use Rattle.std.specs.Prelude.{ℕ, ◌+◌, List, [], ◌∷◌, ◌++◌, codes, map}
use Rattle.std.specs.Fmt.{decimal}
use Rattle.std.specs.List.{flat_map, join_with_byte}
use Rattle.std.specs.Option.{option_to_list}
use Rattle.csv.specs.Writing.{default_writer, row_text}
use Rattle.ac_base.specs.Texts.{id_text}
use Rattle.ac_base.specs.Writing.Pieces.{newline, printed, said}
use Rattle.ac_run.specs.Outputs.Plain.{choice_text, need_text, plain_query, rule_text, value_of, whole_parameters}
use Rattle.ac_query.specs.Asked.{Asked, Group, Slot, slots_of}

-- ---- What stands in the columns

abbrev pub query_columns : List (List ℕ)
query_columns =
    codes "slot" ∷ codes "group" ∷ codes "resources" ∷ codes "required" ∷ codes "forbidden" ∷ codes "member_of" ∷ codes "in_tree" ∷ []

-- what a slot needs
abbrev pub needs_cell : List (List ℕ × ℕ) → List ℕ
needs_cell needs = join_with_byte 44 (map need_text needs)

-- values of a parameter that may be given more than once, with a blank between each two
abbrev pub required_cell : Group → List ℕ
required_cell g = join_with_byte 32 (value_of g.required ++ map choice_text g.any_of)

abbrev pub forbidden_cell : Group → List ℕ
forbidden_cell g = join_with_byte 44 g.forbidden

abbrev pub aggregates_cell : Group → List ℕ
aggregates_cell g = join_with_byte 32 (map rule_text g.member_of)

abbrev pub tree_cell : Group → List ℕ
tree_cell g = join_with_byte 32 (map id_text (option_to_list g.in_tree))

-- ---- The text

-- the row of a slot of this number
abbrev pub slot_row : ℕ → Slot → List (List ℕ)
slot_row number slot =
    decimal number ∷ printed slot.suffix ∷ needs_cell slot.needs ∷ required_cell slot.group ∷ forbidden_cell slot.group
    ∷ aggregates_cell slot.group ∷ tree_cell slot.group ∷ []

-- slots are numbered from 1, in the order of a token's parts
abbrev pub slot_rows : ℕ → List Slot → List (List (List ℕ))
slot_rows number [] = []
slot_rows number (slot ∷ slots) = slot_row number slot ∷ slot_rows (number + 1) slots

-- the line of a parameter
abbrev pub parameter_line : List ℕ × List ℕ → List ℕ
parameter_line p = said (p.0 ∷ codes ": " ∷ p.1 ∷ newline ∷ [])

unfoldable pub reading_text : Asked → List ℕ
reading_text asked =
    flat_map (row_text default_writer) (query_columns ∷ slot_rows 1 (slots_of asked))
    ++ (flat_map parameter_line (whole_parameters asked) ++ parameter_line (codes "query", plain_query asked))
