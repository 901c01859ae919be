-- What is left of rooms, class by class: classes by their numbers, and each room less what a front asks of it.
pub mod Accounts
use Rattle.std.specs.Prelude.{◌≡◌, ℕ, ◌+◌, ◌*◌, ◌<◌, ◌^◌, Bool, nat_le, if◌then◌else◌, ◌==◌, List, [], ◌∷◌, length, slice_index, slice_index_or}
use Rattle.std.specs.Option.{unwrap_or}
use Rattle.std.specs.List.{list_all}
use Rattle.ac_cloud.specs.World.{Provider, provider_at, used_of}
use Rattle.ac_rules.specs.Own.{inventory_of}
use Rattle.ac_rules.specs.Room.{IsKnown, class_number, room_in}
use Rattle.ac_rules.specs.Placed.{Placed}
use Rattle.ac_rules.specs.Together.{sum_on}
use Rattle.ac_prune.specs.declared.ledger.rooms.Ask.{Ask}

-- an ask as the number of its class and its amount
abbrev pub ask_pair : Ask → ℕ × ℕ
ask_pair a = (a.class, a.amount)

-- a need with the number of its class
abbrev pub numbered : List (List ℕ) → List ℕ × ℕ → ℕ × ℕ
numbered classes need = (class_number classes need.0, need.1)

-- what asks want of the class of a number, together
abbrev pub wanted : List (ℕ × ℕ) → ℕ → ℕ
wanted [] k = 0
wanted (a ∷ asks) k = (if a.0 == k then a.1 else 0) + wanted asks k

-- ---- What a provider has left of each class, by its number

-- it has for each ask its amount
abbrev pub has_each : (ℕ → ℕ) → List (ℕ × ℕ) → Bool
has_each left asks = list_all (λ a. nat_le a.1 (left a.0)) asks

-- it has for each ask what all of them want of its class
abbrev pub suffices : (ℕ → ℕ) → List (ℕ × ℕ) → Bool
suffices left asks = list_all (λ a. nat_le (wanted asks a.0) (left a.0)) asks

-- the most of a class that one assignment may take of a provider; 0 where it has none
abbrev pub room_on : List Provider → ℕ → List ℕ → ℕ
room_on all p class = unwrap_or (room_in (inventory_of (provider_at all p) class) (used_of (provider_at all p) class)) 0

-- that of each provider fits in 64 bits
abbrev pub AreSmall : List Provider → List ℕ → Type 0
AreSmall all class = (p : ℕ) → p < length all → room_on all p class < 2 ^ 64

-- ---- Rows: what is left of each class, by its number, at each provider

-- each provider's room for each class, provider by provider
abbrev pub AreRooms : List Provider → List (List ℕ) → ℕ → List ℕ → Type 0
AreRooms all classes width rooms = (p k : ℕ) → p < length all → k < width → slice_index rooms (p * width + k) ≡ room_on all p (slice_index_or classes k [])

-- what asks want of a room, where the row of their provider begins at a place
abbrev pub wanted_at : ℕ → List Ask → ℕ → ℕ
wanted_at row [] i = 0
wanted_at row (a ∷ asks) i = (if row + a.class == i then a.amount else 0) + wanted_at row asks i

-- For each class the room of each provider is left, less what a front asks of it.
abbrev pub AreLeft : List Provider → List (List ℕ) → (ℕ → ℕ → ℕ) → List Placed → Type 0
AreLeft all classes left xs = (p : ℕ) (class : List ℕ) → p < length all → IsKnown classes class
    → left p (class_number classes class) + sum_on xs p class ≡ room_on all p class
