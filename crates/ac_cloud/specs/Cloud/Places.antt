-- Parents as places in a list.
use Rattle.std.specs.List.{All, position_from}
use Rattle.std.specs.Prelude.{◌≡◌, ◌==◌, Some, ℕ, ◌<◌, List, length, get_or, Option, None, IfSome}
use Rattle.std.proofs.Props.{props}
use Rattle.ac_cloud.specs.declared.cloud.provider_index.Listed.{Listed}

-- the parent of a place, where it has one
abbrev pub parent_in : List (Option ℕ) → ℕ → Option ℕ
parent_in parents i = get_or parents i None

-- every parent is one of the list
abbrev pub AreParents : List (Option ℕ) → Type 0
AreParents parents = (i : ℕ) → i < length parents → IfSome (get_or parents i None) (λ j. j < length parents)

-- every item is a place below n
abbrev pub ArePlaces : ℕ → List ℕ → Type 0
ArePlaces n xs = (i : ℕ) → i < length xs → get_or xs i 0 < n

-- where the items of a list lead
abbrev pub along : List ℕ → ℕ → ℕ
along step i = get_or step i 0

-- the place of a number in a list
abbrev pub rank : List ℕ → ℕ → Option ℕ
rank ids id = position_from (λ p. p == id) 0 ids

-- every parent is one of the first n places
abbrev pub AreWithin : ℕ → List (Option ℕ) → Type 0
AreWithin n parents = (i j : ℕ) → i < n → get_or parents i None ≡ Some j → j < n

-- Each provider that is listed stands at its place. This is one word, so that a proof which only asks a cloud looks through none of it.
unfoldable pub ArePlaced : List ℕ → List Listed → Type 0
ArePlaced ids listed = All (λ l. (l.place < length ids) × (get_or ids l.place 0 ≡ l.id)) listed

pub ArePlaced-prop : (ids : List ℕ) (listed : List Listed) → IsProp (ArePlaced ids listed)
unfolding ArePlaced
ArePlaced-prop ids listed = Prim.hlevel props
