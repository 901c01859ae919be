-- What a slot asks, as a text: its classes with their amounts.
use Rattle.std.specs.Prelude.{ℕ, List, [], ◌∷◌, ◌++◌, codes}
use Rattle.std.specs.Fmt.{decimal}
use Rattle.std.specs.List.{flat_map}
use Rattle.ac_base.specs.Writing.Pieces.{said}

-- a class with its amount, behind a mark
unfoldable pub need_text : List ℕ → List ℕ × ℕ → List ℕ
need_text mark need = said (mark ∷ need.0 ∷ codes ":" ∷ decimal need.1 ∷ [])

-- classes with their amounts: the first behind a mark, each further one behind a comma
abbrev pub needs_text : List ℕ → List (List ℕ × ℕ) → List ℕ
needs_text mark [] = []
needs_text mark (need ∷ needs) = need_text mark need ++ flat_map (λ need. need_text (codes ",") need) needs

-- the same with nothing before the first
abbrev pub asks_text : List (List ℕ × ℕ) → List ℕ
asks_text needs = needs_text [] needs
