-- A table that is drawn with lines.
use Rattle.std.specs.Prelude.{ℕ, ◌-◌, false, List, [], ◌∷◌, ◌++◌, chars, codes, get_or, length, map, max, replicate}
use Rattle.std.specs.List.{flat_map, range_with_len}
use Rattle.unicode_width.specs.Width.{str_width}

-- the columns that a text takes in a terminal
abbrev pub width : List ℕ → ℕ
width text = str_width false (chars text)

-- the most that the cell of a row takes at a place
abbrev pub widest : ℕ → List (List (List ℕ)) → ℕ
widest i [] = 0
widest i (row ∷ rows) = max (width (get_or row i [])) (widest i rows)

-- the most at each of so many places
abbrev pub widths_of : ℕ → List (List (List ℕ)) → List ℕ
widths_of count rows = map (λ i. widest i rows) (range_with_len 0 count)

-- a line between rows
abbrev pub rule_cell : ℕ → List ℕ
rule_cell wide = 45 ∷ (replicate wide 45 ++ codes "-+")

abbrev pub rule_line : List ℕ → List ℕ
rule_line widths = 43 ∷ (flat_map rule_cell widths ++ 10 ∷ [])

-- a row, each cell filled up to its width
abbrev pub filled_cell : ℕ → List ℕ → List ℕ
filled_cell wide cell = 32 ∷ (cell ++ (replicate (wide - width cell) 32 ++ codes " |"))

abbrev pub cell_at : List ℕ → List (List ℕ) → ℕ → List ℕ
cell_at widths row i = filled_cell (get_or widths i 0) (get_or row i [])

abbrev pub row_line : List ℕ → List (List ℕ) → List ℕ
row_line widths row = 124 ∷ (flat_map (cell_at widths row) (range_with_len 0 (length widths)) ++ 10 ∷ [])

-- the header and the other rows, between lines
abbrev pub drawn : List ℕ → List (List ℕ) → List (List (List ℕ)) → List ℕ
drawn widths header rows = rule_line widths ++ (row_line widths header ++ (rule_line widths ++ (flat_map (row_line widths) rows ++ rule_line widths)))

-- nothing, where there isn't even a header
abbrev pub table_text : List (List (List ℕ)) → List ℕ
table_text [] = []
table_text (header ∷ rows) = drawn (widths_of (length header) (header ∷ rows)) header rows
