-- The counts of an explanation, as the code holds them.
use Rattle.std.specs.Prelude.{◌≡◌, ℕ, ◌<◌, ◌&&◌, Bool, false, not, List, length, map, slice_index_or, Option, if◌then◌else◌}
use Rattle.std.specs.List.{list_all, list_any, filter, range_with_len}
use Rattle.std.specs.Option.{is_none}
use Rattle.ac_query.specs.Asked.{Asked, Group, Slot}
use Rattle.ac_cloud.specs.World.{Provider, has_trait, is_available_at, provider_at}
use Rattle.ac_rules.specs.Own.{has_any}
use Rattle.ac_rules.specs.Together.{is_empty, takes_root}
use Rattle.ac_find.specs.Explained.{SlotCounts, SlotTold, TreeCounts, in_slot, is_held, is_served, meets_room, meets_tree, serves_unsuffixed}
use Rattle.ac_find.specs.declared.counts.SlotCounts as slot
use Rattle.ac_find.specs.declared.counts.TreeCounts as trees
use Rattle.ac_find.specs.declared.counts.classes.SlotTold as told

abbrev pub slot_counted : slot.SlotCounts → SlotCounts
slot_counted c = record { units = c.units; traits = c.traits; aggregates = c.aggregates; tree = c.tree; room = c.room }

abbrev pub slot_shown : told.SlotTold → SlotTold
slot_shown t = record { counts = slot_counted t.counts; rooms = t.rooms.items; lefts = t.lefts.items }

-- which providers meet all but room
abbrev pub fitting : List Provider → Slot → List Bool
fitting all slot = map (λ p. meets_tree all (in_slot slot p)) (range_with_len 0 (length all))

abbrev pub trees_counted : trees.TreeCounts → TreeCounts
trees_counted c = record { roots = c.roots; root_traits = c.root_traits; each_slot = c.each_slot; required_traits = c.required_traits }

-- how many marks are set
abbrev pub marked : List Bool → ℕ
marked marks = length (filter (λ mark. mark) marks)

-- 1 for each provider that meets all that a slot asks, and else 0
abbrev pub served : List Provider → Slot → List ℕ
served all slot = map (λ p. if meets_room all (in_slot slot p) then 1 else 0) (range_with_len 0 (length all))

-- the marks of the roots that the query takes, and at which each of these slots has a provider
abbrev pub served_roots : List Provider → Asked → List Slot → List Bool
served_roots all asked slots = map (λ r. takes_root all asked r && list_all (λ slot. is_served all r slot) slots) (range_with_len 0 (length all))

-- ---- What the group without a suffix requires

-- the providers that meet all that some slot without a suffix asks
abbrev pub unsuffixed : List Provider → Asked → List Bool
unsuffixed all asked = map (serves_unsuffixed all asked) (range_with_len 0 (length all))

-- those that are available in the tree of a root
abbrev pub serving : List Provider → Asked → ℕ → List ℕ
serving all asked r = filter (λ p. serves_unsuffixed all asked p && is_available_at all p r) (range_with_len 0 (length all))

-- one of some providers has a trait
abbrev pub some_has : List Provider → List ℕ → List ℕ → Bool
some_has all list name = list_any (λ p. has_trait (provider_at all p) name) list

-- each of some traits is held at a root
abbrev pub holds_each : List Provider → Asked → List (List ℕ) → ℕ → Bool
holds_each all asked names r = list_all (λ name. is_held all asked r name) names

-- 1 for each of them that has one of these traits, and else 0
abbrev pub holding : List Provider → Asked → List (List ℕ) → List ℕ
holding all asked names = map (λ p. if serves_unsuffixed all asked p && has_any (provider_at all p) names then 1 else 0) (range_with_len 0 (length all))

-- the marks that stay: those of roots that pass a test
abbrev pub AreKept : List Provider → (ℕ → Bool) → List Bool → List Bool → Type 0
AreKept all test old new = (r : ℕ) → r < length all → slice_index_or new r false ≡ (slice_index_or old r false && test r)

-- a group has no suffix, and requires a trait or one of a list
abbrev pub requires_some : Option (List ℕ) → Group → Bool
requires_some suffix g = is_none suffix && not (is_empty g.required && is_empty g.any_of)
