-- What lies between two lists of a search, and what a walk through it keeps true by its path and its places.
pub mod Steps
use Rattle.std.specs.Prelude.{◌≡◌, ℕ, ◌+◌, ◌-◌, ◌*◌, ◌<◌, ◌≤◌, zero, suc, Bool, true, false, not, ◌&&◌, nat_lt, cond, if◌then◌else◌, List, [], ◌∷◌, ◌++◌, map, length, take, slice_index, Option, None, Some}
use Rattle.std.specs.List.{filter, flat_map, range_with_len, AllByRecursion}
use Rattle.ac_rules.specs.Lists.{lex_lt}
use Rattle.ac_prune.specs.Search.{Search, sought, choices_at, next_at}

-- ---- What lies between two lists

-- the lists of fewer than h numbers below n, in order
abbrev pub all_shorter : ℕ → ℕ → List (List ℕ)
all_shorter n zero = []
all_shorter n (suc h) = [] ∷ flat_map (λ first. map (λ t. first ∷ t) (all_shorter n h)) (range_with_len 0 n)

-- q and what goes on from it while the test holds, with fewer than h further numbers below n
abbrev pub below : (List ℕ → Bool) → ℕ → ℕ → List ℕ → List (List ℕ)
below test n zero q = []
below test n (suc h) q = cond (test q) (q ∷ flat_map (λ p. below test n h (q ++ p ∷ [])) (range_with_len 0 n)) []

-- not after y cut to its length; without y, every list
abbrev pub is_up_to : Option (List ℕ) → List ℕ → Bool
is_up_to None q = true
is_up_to (Some y) q = not (lex_lt (take (length q) y) q)

-- open, not before x cut to its length, and up to y
abbrev pub is_between : Search → List ℕ → Option (List ℕ) → List ℕ → Bool
is_between m x y q = m.is_open q && (not (lex_lt q (take (length q) x)) && is_up_to y q)

-- the lists of fewer numbers than slots that lie between x and y, with all their fronts
abbrev pub between : Search → List ℕ → Option (List ℕ) → List (List ℕ)
between m x y = below (λ q. is_between m x y q) m.count m.width []

-- ---- Where a walk stands

-- the front that is tried next, behind q by the choice at place j of depth d
abbrev pub next_front : Search → List ℕ → ℕ → ℕ → List ℕ
next_front m q d j = q ++ next_at m d j ∷ []

-- the lists from c on
abbrev pub from : List ℕ → List ℕ → Bool
from c t = not (lex_lt t c)

-- of the wanted lists from x on, those from c on
unfoldable pub left_from : Search → List ℕ → List ℕ → List (List ℕ)
left_from m x c = filter (λ t. from c t) (sought m x)

-- open lists, not before x cut to their length, that a walk has met before c
abbrev pub is_met : Search → List ℕ → List ℕ → List ℕ → Bool
is_met m x c q = m.is_open q && (not (lex_lt q (take (length q) x)) && lex_lt q c)

unfoldable pub met : Search → List ℕ → List ℕ → ℕ
met m x c = length (filter (λ q. is_met m x c q) (all_shorter m.count m.width))

-- the choices behind the places that are in use
abbrev pub behind : List ℕ → List (List ℕ) → ℕ
behind [] slots = 0
behind (j ∷ places) [] = 0
behind (j ∷ places) (choices ∷ more) = (length choices - suc j) + behind places more

-- the least number at depth d while the path is a front of x
abbrev pub least_at : List ℕ → ℕ → ℕ
least_at x d = if nat_lt d (length x) then slice_index x d else 0

-- a list has a number at a place
abbrev pub HasAt : List ℕ → ℕ → ℕ → Type 0
HasAt xs i x = (i < length xs) × (slice_index xs i ≡ x)

-- the places before j have numbers below v, and j has none
pub record IsStart (xs : List ℕ) (v j : ℕ) : Type 0 where
  pub within : j ≤ length xs
  pub before : (i : ℕ) → i < j → slice_index xs i < v
  pub here : j < length xs → v ≤ slice_index xs j

-- place j at depth d, behind q, tries nothing before x and leaves out no wanted list from x on; x is sought while q is a front of it
pub record Enters (m : Search) (x q : List ℕ) (d j : ℕ) (seeking : Bool) : Type 0 where
  pub place : j ≤ length (choices_at m d)
  pub reached : j < length (choices_at m d) → lex_lt (next_front m q d j) (take (suc d) x) ≡ false
  pub seeks : seeking ≡ true → q ≡ take d x
  pub passed : seeking ≡ false → lex_lt x (next_front m q d j) ≡ true
  pub least : AllByRecursion (λ t. (r : ℕ) (s : List ℕ) → t ≡ q ++ r ∷ s → next_at m d j ≤ r) (sought m x)

-- What a walk from x on keeps true: q is its path of depth d, by the choices at the places `used`, and it goes on by place j. It seeks x while q is a front of x.
pub record IsSound (m : Search) (x q used : List ℕ) (d j : ℕ) (seeking : Bool) (probes : ℕ) : Type 0 where
  pub long : length q ≡ d
  pub used_long : length used ≡ d
  pub least_len : length x ≤ m.width
  pub within : d < m.width
  -- nothing is on the path before the first try
  pub begun : probes ≡ 0 → d ≡ 0
  -- each number of the path is among the choices of its slot
  pub placed : (i : ℕ) → i < d → (slice_index used i < length (choices_at m i)) × (next_at m i (slice_index used i) ≡ slice_index q i)
  pub place : j ≤ length (choices_at m d)
  -- the path is open; of the empty one it is not asked
  pub opens : 0 < d → m.is_open q ≡ true
  -- nothing before x is tried
  pub reached : j < length (choices_at m d) → lex_lt (next_front m q d j) (take (suc d) x) ≡ false
  pub seeks : seeking ≡ true → q ≡ take d x
  pub passed : seeking ≡ false → lex_lt x (next_front m q d j) ≡ true
  -- each choice that was looked at, or may still be behind a place in use, is one of `count` at an open list that was met
  pub paid : probes + (behind used m.choices + (length (choices_at m d) - j)) ≤ m.count * met m x (next_front m q d j)
