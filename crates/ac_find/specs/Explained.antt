-- How far a query comes: of each slot how many providers meet its rules, one after another, and how many roots have one for each slot, and
-- the traits that the group without a suffix requires.
use Rattle.std.specs.Prelude.{ℕ, ◌==◌, Bool, ◌&&◌, ◌||◌, if◌then◌else◌, nat_lt, List, [], length, map, max}
use Rattle.std.specs.List.{fold, list_all, list_any, filter, range_with_len}
use Rattle.std.specs.Option.{is_none, is_some}
use Rattle.ac_query.specs.Asked.{Asked, Group, Slot, slots_of}
use Rattle.ac_cloud.specs.World.{Provider, provider_at, id_at, has_trait, is_root, left_of, used_of}
use Rattle.ac_rules.specs.Placed.{Placed}
use Rattle.ac_rules.specs.Own.{inventory_of, units_fit, traits_fit, aggregates_fit, tree_fits, has_any}
use Rattle.ac_rules.specs.Together.{holds, takes_root}
use Rattle.ac_prune.specs.QuerySearch.{has_room_alone}
use Rattle.ac_prune.specs.Ahead.{hosts_of}

-- ---- What a slot's provider is asked, one after another

-- a provider has an inventory of a class, however much is left of it
unfoldable pub has_inventory : Provider → List ℕ → Bool
has_inventory p class = is_some (inventory_of p class)

-- of each class of the slot; whoever meets its units has them
abbrev pub has_inventories : List Provider → Placed → Bool
has_inventories all x = list_all (λ need. has_inventory (provider_at all x.provider) need.0) x.slot.needs

abbrev pub meets_units : List Provider → Placed → Bool
meets_units all x = units_fit all x

abbrev pub meets_traits : List Provider → Placed → Bool
meets_traits all x = meets_units all x && traits_fit all x

abbrev pub meets_aggregates : List Provider → Placed → Bool
meets_aggregates all x = meets_traits all x && aggregates_fit all x

abbrev pub meets_tree : List Provider → Placed → Bool
meets_tree all x = meets_aggregates all x && tree_fits all x

abbrev pub meets_room : List Provider → Placed → Bool
meets_room all x = meets_tree all x && has_room_alone all x

-- ---- Counts of providers

-- how many places of a list pass a test
abbrev pub count_below : ℕ → (ℕ → Bool) → ℕ
count_below n test = length (filter test (range_with_len 0 n))

-- how many providers pass a test, by their places
abbrev pub count_of : List Provider → (ℕ → Bool) → ℕ
count_of all test = count_below (length all) test

-- a provider in a slot
abbrev pub in_slot : Slot → ℕ → Placed
in_slot slot p = record { slot = slot; provider = p }

-- how many providers meet what a slot asks; each number counts those that meet all that stands before it, too
pub record SlotCounts : Type 0 where
  pub units : ℕ
  pub traits : ℕ
  pub aggregates : ℕ
  pub tree : ℕ
  pub room : ℕ

abbrev pub slot_counts : List Provider → Slot → SlotCounts
slot_counts all slot = record {
  units = count_of all (λ p. meets_units all (in_slot slot p));
  traits = count_of all (λ p. meets_traits all (in_slot slot p));
  aggregates = count_of all (λ p. meets_aggregates all (in_slot slot p));
  tree = count_of all (λ p. meets_tree all (in_slot slot p));
  room = count_of all (λ p. meets_room all (in_slot slot p));
}

-- how many providers that meet all but room have room for one class of the slot, whatever they have of the others
abbrev pub class_room : List Provider → Slot → List ℕ × ℕ → ℕ
class_room all slot need = count_of all (λ p. meets_tree all (in_slot slot p) && holds (provider_at all p) need.0 need.1)

-- a slot has several classes, and some provider that meets all but room has no room for them
abbrev pub is_short : List Provider → Slot → Bool
is_short all slot = nat_lt 1 (length slot.needs) && nat_lt (slot_counts all slot).room (slot_counts all slot).tree

-- of such a slot how many have room for each class, in the order of classes; of others nothing
abbrev pub class_rooms : List Provider → Slot → List ℕ
class_rooms all slot = if is_short all slot then map (class_room all slot) slot.needs else []

-- how much of a class is left to a provider that meets all but room; 0 to others
abbrev pub left_to : List Provider → Slot → List ℕ → ℕ → ℕ
left_to all slot class p = if meets_tree all (in_slot slot p) then left_of (inventory_of (provider_at all p) class) (used_of (provider_at all p) class) else 0

-- the greatest of some numbers, 0 where there is none
abbrev pub greatest_of : List ℕ → ℕ
greatest_of numbers = fold max 0 numbers

-- the most that is left of a class of the slot to one of those that meet all but room
abbrev pub most_left : List Provider → Slot → List ℕ × ℕ → ℕ
most_left all slot need = greatest_of (map (left_to all slot need.0) (range_with_len 0 (length all)))

-- some provider meets all but room, and none has room
abbrev pub is_full : List Provider → Slot → Bool
is_full all slot = (slot_counts all slot).room == 0 && nat_lt 0 (slot_counts all slot).tree

-- of such a slot the most that is left of each class, in the order of classes; of others nothing
abbrev pub class_lefts : List Provider → Slot → List ℕ
class_lefts all slot = if is_full all slot then map (most_left all slot) slot.needs else []

-- what is told of a slot
pub record SlotTold : Type 0 where
  pub counts : SlotCounts
  pub rooms : List ℕ
  pub lefts : List ℕ

abbrev pub slot_told : List Provider → Slot → SlotTold
slot_told all slot = record { counts = slot_counts all slot; rooms = class_rooms all slot; lefts = class_lefts all slot }

-- ---- Counts of roots

-- a provider that meets all that a slot asks is available in the tree of a root
abbrev pub is_served : List Provider → ℕ → Slot → Bool
is_served all r slot = list_any (λ p. meets_room all (in_slot slot p)) (hosts_of all r)

-- a root that the query takes, and at which each slot has such a provider
abbrev pub has_each_slot : List Provider → Asked → ℕ → Bool
has_each_slot all asked r = takes_root all asked r && list_all (λ slot. is_served all r slot) (slots_of asked)

-- a provider that meets all that some slot without a suffix asks
abbrev pub serves_unsuffixed : List Provider → Asked → ℕ → Bool
serves_unsuffixed all asked p = list_any (λ slot. is_none slot.suffix && meets_room all (in_slot slot p)) (slots_of asked)

-- such a provider is available in the tree of a root, and has a trait
abbrev pub is_held : List Provider → Asked → ℕ → List ℕ → Bool
is_held all asked r name = list_any (λ p. serves_unsuffixed all asked p && has_trait (provider_at all p) name) (hosts_of all r)

-- one is, and has one of these traits
abbrev pub is_one_held : List Provider → Asked → ℕ → List (List ℕ) → Bool
is_one_held all asked r names = list_any (λ p. serves_unsuffixed all asked p && has_any (provider_at all p) names) (hosts_of all r)

-- each required trait of a group is held there, by one provider or another, and of each any-of list one is
abbrev pub are_held : List Provider → Asked → ℕ → Group → Bool
are_held all asked r g = list_all (λ name. is_held all asked r name) g.required && list_all (λ names. is_one_held all asked r names) g.any_of

-- all that the group without a suffix requires is held there
abbrev pub holds_required : List Provider → Asked → ℕ → Bool
holds_required all asked r = list_all (λ g. is_some g.0 || are_held all asked r g.1) asked.groups

-- how many roots there are, how many of them the query takes, at how many of these each slot has such a provider, and at how many of
-- these all that the group without a suffix requires is held
pub record TreeCounts : Type 0 where
  pub roots : ℕ
  pub root_traits : ℕ
  pub each_slot : ℕ
  pub required_traits : ℕ

abbrev pub tree_counts : List Provider → Asked → TreeCounts
tree_counts all asked = record {
  roots = count_of all (λ r. is_root all (id_at all r));
  root_traits = count_of all (λ r. takes_root all asked r);
  each_slot = count_of all (λ r. has_each_slot all asked r);
  required_traits = count_of all (λ r. has_each_slot all asked r && holds_required all asked r);
}
