-- What a root lacks of what a query asks: the first of what is asked there that it doesn't have.
use Rattle.std.specs.Prelude.{ℕ, ◌+◌, Bool, true, false, List, [], ◌∷◌, map, length, Option, None, Some}
use Rattle.std.specs.List.{list_any, range_with_len}
use Rattle.std.specs.Option.{option_map, option_or}
use Rattle.ac_query.specs.Asked.{Asked, Slot, slots_of}
use Rattle.ac_cloud.specs.World.{Provider}
use Rattle.ac_rules.specs.Placed.{Placed}
use Rattle.ac_rules.specs.Together.{takes_root}
use Rattle.ac_prune.specs.Ahead.{hosts_of}
use Rattle.ac_find.specs.Explained.{has_inventories, holds_required, in_slot, meets_units, meets_traits, meets_aggregates, meets_tree, meets_room}
use Rattle.ac_prune.specs.Fitting.{fits_at}
use Rattle.ac_find.specs.declared.lacks.Stage.{Stage}
use Rattle.ac_find.specs.declared.lacks.Stage.TheVariants.{Inventory, Units, Traits, Aggregates, Tree, Room}
use Rattle.ac_find.specs.declared.lacks.Lack.{Lack}
use Rattle.ac_find.specs.declared.lacks.Lack.TheVariants as lack

-- what is lacking where a test fails, and else what is lacking behind it
abbrev pub if_failed : {X : Type 0} → Bool → X → Option X → Option X
if_failed true lacks behind = behind
if_failed false lacks behind = Some lacks

-- the first of the six tests of a slot that its provider fails
abbrev pub first_failed : List Provider → Placed → Option Stage
first_failed all x =
    if_failed (has_inventories all x) Inventory
    (if_failed (meets_units all x) Units
    (if_failed (meets_traits all x) Traits
    (if_failed (meets_aggregates all x) Aggregates
    (if_failed (meets_tree all x) Tree
    (if_failed (meets_room all x) Room None)))))

-- the first of the six tests of a slot that none of the providers available in the tree of a root passes
abbrev pub unreached : List Provider → ℕ → Slot → Option Stage
unreached all r slot =
    if_failed (list_any (λ p. has_inventories all (in_slot slot p)) (hosts_of all r)) Inventory
    (if_failed (list_any (λ p. meets_units all (in_slot slot p)) (hosts_of all r)) Units
    (if_failed (list_any (λ p. meets_traits all (in_slot slot p)) (hosts_of all r)) Traits
    (if_failed (list_any (λ p. meets_aggregates all (in_slot slot p)) (hosts_of all r)) Aggregates
    (if_failed (list_any (λ p. meets_tree all (in_slot slot p)) (hosts_of all r)) Tree
    (if_failed (list_any (λ p. meets_room all (in_slot slot p)) (hosts_of all r)) Room None)))))

-- the first of some slots, which are numbered from here, that none of them serves by itself: its number, and the test
abbrev pub first_unserved : List Provider → ℕ → ℕ → List Slot → Option Lack
first_unserved all r number [] = None
first_unserved all r number (slot ∷ slots) = option_or (option_map (λ stage. lack.Slot number stage) (unreached all r slot)) (first_unserved all r (number + 1) slots)

-- the first thing that is lacking, by what a root is found to have
abbrev pub first_lack : Bool → Option Lack → Bool → Bool → Option Lack
first_lack takes slot holds fits = if_failed takes lack.RootTraits (option_or slot (if_failed holds lack.RequiredTraits (if_failed fits lack.Together None)))

-- what a root lacks: what the query asks of a root; a provider for a slot; the traits that the group without a suffix requires; else a
-- candidate. Slots are numbered from 1.
abbrev pub lack_at : List Provider → Asked → ℕ → Option Lack
lack_at all asked r = first_lack (takes_root all asked r) (first_unserved all r 1 (slots_of asked)) (holds_required all asked r) (fits_at all asked r)

-- what each provider lacks as a root, by its place; one that isn't a root lacks what is asked of a root
abbrev pub lacks_of : List Provider → Asked → List (Option Lack)
lacks_of all asked = map (lack_at all asked) (range_with_len 0 (length all))
