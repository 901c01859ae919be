-- Classes by their numbers, and what a provider may still give of one.
use Rattle.std.specs.Prelude.{ℕ, ◌-◌, ◌<◌, suc, min, nat_le, List, [], ◌∷◌, length, map, Option, None, Some, if◌then◌else◌}
use Rattle.std.specs.Str.{bytes_eq}
use Rattle.ac_base.specs.Quantities.{InventoryNumbers, capacity}
use Rattle.ac_query.specs.Asked.{Asked, slots_of}
use Rattle.ac_rules.specs.Placed.{slot_at}

-- the number of a class among classes is its first place there; past the end where it isn't there
abbrev pub class_number : List (List ℕ) → List ℕ → ℕ
class_number [] class = 0
class_number (c ∷ classes) class = if bytes_eq c class then 0 else suc (class_number classes class)

-- a class is one of them
abbrev pub IsKnown : List (List ℕ) → List ℕ → Type 0
IsKnown classes class = class_number classes class < length classes

-- some slot of a query asks for a class
abbrev pub IsAsked : Asked → List ℕ → Type 0
IsAsked asked class = (s : ℕ) × (s < length (slots_of asked) × IsKnown (map (λ need. need.0) (slot_at asked s).needs) class)

-- the most that one assignment may take of an inventory of which so much is used; none where more is used than there is
abbrev pub room_in : Option InventoryNumbers → ℕ → Option ℕ
room_in None used = None
room_in (Some inventory) used = if nat_le used (capacity inventory) then Some (min inventory.max_unit (capacity inventory - used)) else None

-- what is left of a room when an amount is taken, where it suffices
abbrev pub less : ℕ → ℕ → Option ℕ
less room amount = if nat_le amount room then Some (room - amount) else None
