-- What a writer of a page does to its sink and to its source.
use Rattle.std.specs.List.{flat_map}
use Rattle.std.specs.Io.KnownBytes.{Appends}
use Rattle.std.specs.Prelude.{◌≡◌, ℕ, ◌≤◌, List, [], ◌++◌, drop, length, Option, Some, None, ⊤}
use Rattle.ac_cloud.specs.World.{Provider}
use Rattle.ac_query.specs.Asked.{Asked, slots_of}
use Rattle.ac_rules.specs.Lists.{IsListBelow}

-- a list of one provider for each slot
abbrev pub IsAssignment : List Provider → Asked → List ℕ → Type 0
IsAssignment all asked list = IsListBelow (length all) (length (slots_of asked)) list

-- the lists behind the first n; behind all of them, without a limit
abbrev pub behind : Option ℕ → List (List ℕ) → List (List ℕ)
behind None lists = []
behind (Some n) lists = drop n lists

-- so many are no more than the limit
abbrev pub IsWithin : ℕ → Option ℕ → Type 0
IsWithin count None = ⊤
IsWithin count (Some n) = count ≤ n

-- some of the first lists are gone, no more than the limit
abbrev pub LosesSome : Option ℕ → List (List ℕ) → List (List ℕ) → Type 0
LosesSome limit old new = (gone : List (List ℕ)) × (old ≡ gone ++ new) × IsWithin (length gone) limit

-- of the pieces of some things the first ones were taken whole, and nothing of the others
abbrev pub TakesWhole : {X : Type 0} → (X → List ℕ) → List X → Option (List ℕ) → Option (List ℕ) → Type 0
TakesWhole {X} piece xs old new = (done rest : List X) × (xs ≡ done ++ rest) × Appends old new (flat_map piece done)
