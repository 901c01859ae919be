-- A walk over a forest: at which turn each place is entered, and how many were entered when it is left.
use Rattle.std.specs.Prelude.{◌≡◌, ◌<◌, ◌≤◌, ◌+◌, ◌&&◌, ℕ, nat_le, nat_lt, List, length, get_or, Option, Some, None}
use Rattle.ac_cloud.specs.Cloud.Places.{parent_in, along}
use Rattle.ac_cloud.specs.Trees.{is_in_chain}

-- one place is entered before another and left after it, or they are one: just where it is above
abbrev pub AreVisits : List (Option ℕ) → List ℕ → List ℕ → Type 0
AreVisits parents entered left =
    (a b : ℕ) → a < length parents → b < length parents
    → (nat_le (along entered a) (along entered b) && nat_lt (along entered b) (along left a)) ≡ is_in_chain (parent_in parents) (length parents) a b

-- the turns of a walk over a forest
abbrev pub IsWalk : List (Option ℕ) → List ℕ → List ℕ → Type 0
IsWalk parents entered left = (length entered ≡ length parents) × (length left ≡ length parents) × AreVisits parents entered left

-- A place's visit agrees with those of its parent and of the sibling before it.
pub record IsPlaced (parents : List (Option ℕ)) (entered left order : List ℕ) (before : List (Option ℕ)) (b : ℕ) : Type 0 where
  pub inside : along entered b < length order
  pub here : get_or order (along entered b) 0 ≡ b
  pub leaves : along entered b < along left b
  pub parent : (q : ℕ) → parent_in parents b ≡ Some q → (along entered q < along entered b) × (along left b ≤ along left q)
  pub sibling : (s : ℕ) → get_or before b None ≡ Some s → (s < length parents) × (parent_in parents s ≡ parent_in parents b) × (along left s ≡ along entered b)
  pub child : (q : ℕ) → get_or before b None ≡ None → parent_in parents b ≡ Some q → along entered b ≡ along entered q + 1
  pub root : get_or before b None ≡ None → parent_in parents b ≡ None → along entered b ≡ 0
