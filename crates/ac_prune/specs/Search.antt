-- A search through lists that have a number for each slot, whatever the numbers, the slots and the rules are: what it
-- looks for, and where nothing is to be found.
use Rattle.std.specs.Prelude.{◌≡◌, ℕ, ◌<◌, ◌≤◌, Bool, false, not, List, [], ◌∷◌, ◌++◌, slice_index_or}
use Rattle.std.specs.List.{filter}
use Rattle.ac_rules.specs.Lists.{all_lists, IsListBelow, lex_lt}

-- The numbers are below `count`, and there are `width` slots. A slot has some of the numbers as its choices. Some lists
-- are open, and some lists of a number for each slot are wanted.
pub record Search : Type 0 where
  pub count : ℕ
  pub width : ℕ
  pub choices : List (List ℕ)
  pub is_open : List ℕ → Bool
  pub is_wanted : List ℕ → Bool

-- the wanted lists, in order, from x on
abbrev pub sought : Search → List ℕ → List (List ℕ)
sought m x = filter (λ t. not (lex_lt t x)) (filter (λ t. m.is_wanted t) (all_lists m.count m.width))

-- no wanted list is q or goes on from it
abbrev pub IsDead : Search → List ℕ → Type 0
IsDead m q = (v : List ℕ) → IsListBelow m.count m.width (q ++ v) → m.is_wanted (q ++ v) ≡ false

-- ---- The choices of a slot

-- the choices of the slot at depth d
unfoldable pub choices_at : Search → ℕ → List ℕ
choices_at m d = slice_index_or m.choices d []

-- the one at a place, or the bound of all numbers past the end
abbrev pub next_at : Search → ℕ → ℕ → ℕ
next_at m d j = slice_index_or (choices_at m d) j m.count

-- nothing is wanted that goes on from q by a choice of depth d from one place on, up to another
abbrev pub AllDead : Search → List ℕ → ℕ → ℕ → ℕ → Type 0
AllDead m q d from to = (i : ℕ) → from ≤ i → i < to → IsDead m (q ++ next_at m d i ∷ [])
