-- The first slot that no root serves, or the first two that none serves together.
use Rattle.std.specs.Prelude.{ℕ, ◌<◌, ◌≤◌, Bool, ◌&&◌, not, List, ◌∷◌, find, length, Option, IfSome, unwrap_or}
use Rattle.std.specs.List.{list_any, range_with_len}
use Rattle.std.specs.Option.{is_some, option_map}
use Rattle.ac_cloud.specs.World.{Provider}
use Rattle.ac_query.specs.Asked.{Asked, slots_of}
use Rattle.ac_find.specs.Explained.{is_served}
use Rattle.ac_rules.specs.Placed.{slot_at}
use Rattle.ac_rules.specs.Together.{takes_root}

-- a root that the query takes has a provider for a slot
abbrev pub serves_slot : List Provider → Asked → ℕ → ℕ → Bool
serves_slot all asked s r = takes_root all asked r && is_served all r (slot_at asked s)

-- some root has a provider for each of two slots
abbrev pub meet : List Provider → Asked → ℕ → ℕ → Bool
meet all asked s t = list_any (λ r. serves_slot all asked s r && serves_slot all asked t r) (range_with_len 0 (length all))

-- with which slot it has no such root: a slot itself, if no root has a provider for it, else the first before it
abbrev pub apart_from : List Provider → Asked → ℕ → Option ℕ
apart_from all asked t = find (λ s. not (meet all asked s t)) (t ∷ range_with_len 0 t)

-- the first slot that has no root with itself or one before it, behind that one
unfoldable pub first_apart : List Provider → Asked → Option (ℕ × ℕ)
first_apart all asked =
    option_map (λ t. (unwrap_or (apart_from all asked t) 0, t)) (find (λ t. is_some (apart_from all asked t)) (range_with_len 0 (length (slots_of asked))))

-- a slot, behind one that doesn't stand behind it
abbrev pub AreSlots : Asked → Option (ℕ × ℕ) → Type 0
AreSlots asked pair = IfSome pair (λ pair. (pair.0 ≤ pair.1) × (pair.1 < length (slots_of asked)))
