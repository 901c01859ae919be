-- Numbers of a tree, or a grove, and a place, and how the next place of a tree is found.
use Rattle.std.specs.Prelude.{◌≡◌, ℕ, ◌+◌, ◌-◌, ◌*◌, ◌<◌, ◌≤◌, ◌^◌, ◌==◌, ◌||◌, Bool, true, List}
use Rattle.std.specs.List.{list_any}

-- a tree and a place as one number
abbrev pub key_of : ℕ → ℕ → ℕ
key_of tree place = tree * 2 ^ 32 + place

-- a number is one of some numbers
abbrev pub is_there : List ℕ → ℕ → Bool
is_there numbers x = list_any (λ y. y == x) numbers

-- a place stands in a tree, or in its grove
abbrev pub IsUnder : List ℕ → ℕ → ℕ → ℕ → Type 0
IsUnder keys grove tree place = is_there keys (key_of tree place) || is_there keys (key_of grove place) ≡ true

-- the least of some numbers that isn't below a bound, or the greatest of all where there is none
pub record IsLeastFrom (numbers : List ℕ) (bound found : ℕ) : Type 0 where
  pub above : bound ≤ found
  pub least : (x : ℕ) → is_there numbers x ≡ true → bound ≤ x → found ≤ x
  pub there : found < 2 ^ 64 - 1 → is_there numbers found ≡ true

-- the least place from one on that a tree has, or one past all
pub record IsNextIn (keys : List ℕ) (count tree from place : ℕ) : Type 0 where
  pub kept : from ≤ place
  pub within : place ≤ count
  pub passed : (i : ℕ) → from ≤ i → is_there keys (key_of tree i) ≡ true → place ≤ i
  pub there : place < count → is_there keys (key_of tree place) ≡ true
