-- Texts in pieces.
use Rattle.std.specs.Prelude.{ℕ, List, [], ◌∷◌, ◌++◌, codes, Option}
use Rattle.std.specs.Option.{unwrap_or}
use Rattle.std.specs.List.{flat_map}

abbrev pub newline : List ℕ
newline = 10 ∷ []

-- pieces of a text, joined
abbrev pub said : List (List ℕ) → List ℕ
said pieces = flat_map (λ piece. piece) pieces

-- a text behind a mark
unfoldable pub marked : List ℕ → List ℕ → List ℕ
marked mark text = said (mark ∷ text ∷ [])

-- texts: the first behind a mark, each further one behind a comma
abbrev pub listed : List ℕ → List (List ℕ) → List ℕ
listed mark [] = []
listed mark (text ∷ texts) = marked mark text ++ listed (codes ",") texts

-- the suffix as it is printed: the unsuffixed group has the empty text
abbrev pub printed : Option (List ℕ) → List ℕ
printed suffix = unwrap_or suffix []
