-- The five rules of all slots together. All but Collective and Subtree speak of the front of an assignment as well.
use Rattle.std.specs.Prelude.{ℕ, ◌+◌, ◌==◌, ◌&&◌, ◌||◌, Bool, true, false, not, nat_le, List, [], ◌∷◌, map, length, Option, None, Some, if◌then◌else◌}
use Rattle.std.specs.List.{list_all, list_any, filter, range_with_len}
use Rattle.std.specs.Option.{is_none, is_some}
use Rattle.std.specs.Str.{bytes_eq}
use Rattle.ac_base.specs.Quantities.{InventoryNumbers, capacity}
use Rattle.ac_query.specs.Asked.{Asked, Group, Slot, is_isolated, lists_suffix}
use Rattle.ac_cloud.specs.World.{Provider, provider_at, id_at, used_of, has_trait, is_root, is_above, is_available_at}
use Rattle.ac_rules.specs.Placed.{Placed}
use Rattle.ac_rules.specs.Own.{inventory_of, has_all, has_any, has_none}

-- ---- Collective

-- an unsuffixed slot whose provider has a trait
abbrev pub brings : List Provider → List ℕ → Placed → Bool
brings all name x = is_none x.slot.suffix && has_trait (provider_at all x.provider) name

-- some unsuffixed slot's provider has it
unfoldable pub is_brought : List Provider → List Placed → List ℕ → Bool
is_brought all xs name = list_any (λ x. brings all name x) xs

-- some unsuffixed slot's provider has one of these traits
abbrev pub is_one_brought : List Provider → List Placed → List (List ℕ) → Bool
is_one_brought all xs names = list_any (λ x. is_none x.slot.suffix && has_any (provider_at all x.provider) names) xs

-- each required trait of a group is had by the provider of some unsuffixed slot, and of each any-of list one is
abbrev pub are_brought : List Provider → List Placed → Group → Bool
are_brought all xs g = list_all (λ name. is_brought all xs name) g.required && list_all (λ names. is_one_brought all xs names) g.any_of

-- Collective: what the unsuffixed group requires, the providers of the unsuffixed slots have together.
unfoldable pub collective : List Provider → Asked → List Placed → Bool
collective all asked xs = list_all (λ g. is_some g.0 || are_brought all xs g.1) asked.groups

-- ---- Sums

-- what needs ask of a class
abbrev pub amount_of : List (List ℕ × ℕ) → List ℕ → ℕ
amount_of [] class = 0
amount_of (need ∷ needs) class = (if bytes_eq need.0 class then need.1 else 0) + amount_of needs class

-- what all slots ask of a class on a provider
abbrev pub sum_on : List Placed → ℕ → List ℕ → ℕ
sum_on [] ix class = 0
sum_on (x ∷ xs) ix class = (if x.provider == ix then amount_of x.slot.needs class else 0) + sum_on xs ix class

-- a sum is within `max_unit`, and with what is used within the capacity
abbrev pub has_room : Option InventoryNumbers → ℕ → ℕ → Bool
has_room None used sum = false
has_room (Some inventory) used sum = nat_le sum inventory.max_unit && nat_le (used + sum) (capacity inventory)

-- a provider has an inventory of a class with room for a sum
abbrev pub holds : Provider → List ℕ → ℕ → Bool
holds p class sum = has_room (inventory_of p class) (used_of p class) sum

-- the provider of a slot has room, in each of the slot's classes, for what all slots ask of it
unfoldable pub holds_sums : List Provider → List Placed → Placed → Bool
holds_sums all xs x = list_all (λ need. holds (provider_at all x.provider) need.0 (sum_on xs x.provider need.0)) x.slot.needs

-- Sums: each slot's provider has.
unfoldable pub sums : List Provider → List Placed → Bool
sums all xs = list_all (λ x. holds_sums all xs x) xs

-- ---- Isolate

abbrev pub is_empty : {X : Type 0} → List X → Bool
is_empty [] = true
is_empty (x ∷ xs) = false

-- a suffixed slot with classes
unfoldable pub is_set_apart : Slot → Bool
is_set_apart s = is_some s.suffix && not (is_empty s.needs)

-- two slots don't both stand apart on one provider
unfoldable pub are_apart : Placed → Placed → Bool
are_apart x y = not (is_set_apart x.slot && is_set_apart y.slot && (x.provider == y.provider))

-- every two slots
abbrev pub all_apart : List Placed → Bool
all_apart [] = true
all_apart (x ∷ xs) = list_all (λ y. are_apart x y) xs && all_apart xs

-- Isolate: where it is asked, different suffixed slots with classes have different providers.
unfoldable pub isolate : Asked → List Placed → Bool
isolate asked xs = not (is_isolated asked) || all_apart xs

-- ---- Subtree

-- the providers of the slots that a list of suffixes names
abbrev pub listed : List (List ℕ) → List Placed → List ℕ
listed names xs = map (λ x. x.provider) (filter (λ x. lists_suffix names x.slot.suffix) xs)

-- a provider is above all of these
unfoldable pub is_top : List Provider → List ℕ → ℕ → Bool
is_top all ps a = list_all (λ b. is_above all (id_at all a) (id_at all b)) ps

-- Subtree: of the providers that each list of `same_subtree` names, one is above all.
unfoldable pub subtree : List Provider → Asked → List Placed → Bool
subtree all asked xs = list_all (λ names. list_any (λ a. is_top all (listed names xs) a) (listed names xs)) asked.subtrees

-- ---- Anchor

-- a root that has all traits asked of the root, and none that is forbidden there
unfoldable pub takes_root : List Provider → Asked → ℕ → Bool
takes_root all asked r =
    is_root all (id_at all r)
    && has_all (provider_at all r) asked.root_required
    && has_none (provider_at all r) asked.root_forbidden

-- every provider is available in the tree of a root
unfoldable pub hosts_all : List Provider → List Placed → ℕ → Bool
hosts_all all xs r = list_all (λ x. is_available_at all x.provider r) xs

-- Anchor: every provider is available in the tree of some root that the query takes.
unfoldable pub anchor : List Provider → Asked → List Placed → Bool
anchor all asked xs = list_any (λ r. takes_root all asked r && hosts_all all xs r) (range_with_len 0 (length all))
