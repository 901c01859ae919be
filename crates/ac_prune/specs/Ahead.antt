-- What lies ahead of a front: what the slots behind it still need at a root, and whether the root's providers can bear it.
pub mod Fronts
use Rattle.std.specs.Prelude.{◌≡◌, ℕ, ◌+◌, ◌-◌, ◌<◌, ◌≤◌, ◌==◌, ◌&&◌, Bool, true, false, nat_le, if◌then◌else◌, List, [], ◌∷◌, ◌++◌, length, drop, slice_index_or}
use Rattle.std.specs.List.{list_all, filter, range_with_len}
use Rattle.ac_query.specs.Asked.{Asked, Slot, slots_of}
use Rattle.ac_cloud.specs.World.{Provider, provider_at, is_available_at}
use Rattle.ac_rules.specs.Lists.{IsListBelow}
use Rattle.ac_rules.specs.Placed.{Placed, placed, assigned}
use Rattle.ac_prune.specs.Left.{room_on}
use Rattle.ac_prune.specs.Marks.{needs_own}
use Rattle.ac_rules.specs.Together.{amount_of, sum_on, holds, is_set_apart, takes_root, hosts_all}
use Rattle.ac_rules.specs.Judge.{is_candidate, is_open}
use Rattle.ac_rules.specs.Own.{fits}

-- ---- Weights: each item puts an amount into a box

-- what all items put
abbrev pub load_of : {X : Type 0} → (X → ℕ) → List X → ℕ
load_of amount [] = 0
load_of amount (x ∷ xs) = amount x + load_of amount xs

-- what they put into a box
abbrev pub load_in : {X : Type 0} → (X → ℕ) → (X → ℕ) → List X → ℕ → ℕ
load_in box amount [] b = 0
load_in box amount (x ∷ xs) b = (if box x == b then amount x else 0) + load_in box amount xs b

-- what slots weigh that are placed on a provider
abbrev pub weight_on : (Slot → ℕ) → List Placed → ℕ → ℕ
weight_on w xs p = load_in (λ x. x.provider) (λ x. w x.slot) xs p

-- ---- A root and a front

-- the providers that are available in the tree of a root
unfoldable pub hosts_of : List Provider → ℕ → List ℕ
hosts_of all r = filter (λ p. is_available_at all p r) (range_with_len 0 (length all))

-- the slots behind a front
abbrev pub later : Asked → List ℕ → List Slot
later asked q = drop (length q) (slots_of asked)

-- a list of a provider for each slot, that is a candidate and stands on the providers of a root that the query takes
pub record IsHosted (all : List Provider) (asked : Asked) (r : ℕ) (t : List ℕ) : Type 0 where
  pub list : IsListBelow (length all) (length (slots_of asked)) t
  pub candidate : is_candidate all asked t ≡ true
  pub takes : takes_root all asked r ≡ true
  pub hosts : hosts_all all (assigned asked t) r ≡ true

-- However the slots behind a front are placed, while the list stays open no provider bears more of a weight than its room.
abbrev pub Bears : List Provider → Asked → List ℕ → (Slot → ℕ) → (ℕ → ℕ) → Type 0
Bears all asked q weight room = (v : List ℕ) → is_open all asked (q ++ v) ≡ true → (p : ℕ) → weight_on weight (placed (later asked q) v) p ≤ room p

-- So the rooms of a root's providers reach what the later slots weigh, where a candidate that goes on from the front stands there.
abbrev pub RoomsReach : Type 0
RoomsReach = (all : List Provider) (asked : Asked) (q v : List ℕ) (r : ℕ) (weight : Slot → ℕ) (room : ℕ → ℕ) → Bears all asked q weight room
    → IsHosted all asked r (q ++ v) → load_of weight (later asked q) ≤ load_of room (hosts_of all r)

-- ---- The weights that are looked at

-- what is left of a provider's room behind a front
abbrev pub left_on : List Provider → Asked → List ℕ → List ℕ → ℕ → ℕ
left_on all asked q class p = room_on all p class - sum_on (assigned asked q) p class

-- 1 for a slot that asks so much of a class or more
abbrev pub asks_much : List ℕ → ℕ → Slot → ℕ
asks_much class amount s = if nat_le amount (amount_of s.needs class) then 1 else 0

-- 1 for a slot that is to stand apart
abbrev pub asks_own : Slot → ℕ
asks_own s = if is_set_apart s then 1 else 0

-- 1 for one that needs a provider for itself and asks so much or more
abbrev pub lone_much : Asked → List ℕ → ℕ → Slot → ℕ
lone_much asked class amount s = if needs_own asked s && nat_le amount (amount_of s.needs class) then 1 else 0

-- a provider fits a slot, and has room for it behind a front
unfoldable pub serves : List Provider → Asked → List ℕ → Slot → ℕ → Bool
serves all asked q s p =
    fits all (record { slot = s; provider = p })
    && list_all (λ need. holds (provider_at all p) need.0 (sum_on (assigned asked q) p need.0 + amount_of s.needs need.0)) s.needs

-- where a candidate stands at a root, the root is marked
abbrev pub AreHosts : List Provider → Asked → List Bool → Type 0
AreHosts all asked may = (r : ℕ) (t : List ℕ) → r < length all → IsHosted all asked r t → slice_index_or may r false ≡ true

-- the marks of the roots that may host a candidate
pub record AreRoots (all : List Provider) (asked : Asked) (may : List Bool) : Type 0 where
  pub count : length may ≡ length all
  pub hosts : AreHosts all asked may
