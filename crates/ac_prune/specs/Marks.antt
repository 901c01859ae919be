-- Which providers are taken by slots that stand apart, and how many of a front are available in the tree of a root.
use Rattle.std.specs.Prelude.{◌≡◌, ℕ, ◌+◌, ◌<◌, ◌≤◌, Bool, true, false, ◌&&◌, ◌==◌, if◌then◌else◌, List, [], ◌∷◌, length, take, slice_index, slice_index_or}
use Rattle.std.specs.List.{list_all, list_any, range_with_len}
use Rattle.ac_query.specs.Asked.{Asked, Slot, is_isolated}
use Rattle.ac_cloud.specs.World.{Provider, is_available_at}
use Rattle.ac_rules.specs.Placed.{Placed}
use Rattle.ac_rules.specs.Together.{is_set_apart}

-- a slot that needs a provider for itself among its like
abbrev pub needs_own : Asked → Slot → Bool
needs_own asked slot = is_isolated asked && is_set_apart slot

-- how many of those have a provider
abbrev pub marks_at : Asked → List Placed → ℕ → ℕ
marks_at asked [] p = 0
marks_at asked (x ∷ xs) p = (if needs_own asked x.slot && (x.provider == p) then 1 else 0) + marks_at asked xs p

abbrev pub AreMarks : List Provider → Asked → List ℕ → List Placed → Type 0
AreMarks all asked marks xs = (p : ℕ) → p < length all → slice_index marks p ≡ marks_at asked xs p

-- how often a number is in a list
abbrev pub times : ℕ → List ℕ → ℕ
times r [] = 0
times r (x ∷ xs) = (if x == r then 1 else 0) + times r xs

-- how many of some providers are available in the tree of a root, up to the first that isn't
abbrev pub hits_at : List Provider → List ℕ → ℕ → ℕ
hits_at all [] r = 0
hits_at all (p ∷ q) r = if is_available_at all p r then 1 + hits_at all q r else 0

-- a count of so many gets another value where something holds
abbrev pub turned : Bool → ℕ → ℕ → ℕ → ℕ
turned holds from to n = if holds && (n == from) then to else n

-- all of some providers are available in the tree of a root
abbrev pub stand_at : List Provider → List ℕ → ℕ → Bool
stand_at all list r = list_all (λ p. is_available_at all p r) list

-- they are in the tree of some root that is marked
unfoldable pub stand_at_marked : List Provider → List Bool → List ℕ → Bool
stand_at_marked all marks list = list_any (λ r. slice_index_or marks r false && stand_at all list r) (range_with_len 0 (length all))

-- a provider is available in each tree in which all of some are
abbrev pub IsWithAll : List Provider → List ℕ → ℕ → Type 0
IsWithAll all list p = (r : ℕ) → stand_at all list r ≡ true → is_available_at all p r ≡ true

-- for each place of a front there is such a provider of the front up to it
pub record AreWithFronts (all : List Provider) (narrowest q : List ℕ) : Type 0 where
  pub count : length q ≤ length narrowest
  pub within : (i : ℕ) → i < length q → slice_index narrowest i < length all
  pub with_all : (i : ℕ) → i < length q → IsWithAll all (take (i + 1) q) (slice_index narrowest i)

abbrev pub AreHits : List Provider → List ℕ → List ℕ → Type 0
AreHits all hits q = (r : ℕ) → r < length all → slice_index hits r ≡ hits_at all q r
