-- Who comes furthest in a slot of the providers in the tree of a root, and which of the slot's classes nobody has there.
use Rattle.std.specs.Prelude.{ℕ, ◌-◌, ◌==◌, ◌&&◌, ◌||◌, Bool, not, nat_lt, List, [], find, get_or, length, map, Option, None, Some, if◌then◌else◌}
use Rattle.std.specs.List.{list_any, range_with_len}
use Rattle.std.specs.Option.{option_map_or}
use Rattle.ac_query.specs.Asked.{Asked, Slot}
use Rattle.ac_cloud.specs.World.{Provider, left_of, provider_at, used_of}
use Rattle.ac_rules.specs.Own.{inventory_of}
use Rattle.ac_rules.specs.Placed.{Placed, slot_at}
use Rattle.ac_prune.specs.Ahead.{hosts_of}
use Rattle.ac_find.specs.Details.{first_short}
use Rattle.ac_find.specs.Explained.{in_slot}
use Rattle.ac_find.specs.Lacking.{first_failed, lack_at}
use Rattle.ac_find.specs.Missing.{somebody_there_has_class}
use Rattle.ac_find.specs.declared.lacks.Stage.{Stage}
use Rattle.ac_find.specs.declared.lacks.Stage.TheVariants.{Inventory, Units, Traits, Aggregates, Tree, Room}
use Rattle.ac_find.specs.declared.lacks.Lack.{Lack}
use Rattle.ac_find.specs.declared.lacks.Lack.TheVariants as lack
use Rattle.ac_find.specs.declared.furthest.Wanting.{Wanting}

-- ---- Who comes furthest

-- how many tests of a slot stand before this one, or how many there are
abbrev pub tests_before : Option Stage → ℕ
tests_before (Some Inventory) = 0
tests_before (Some Units) = 1
tests_before (Some Traits) = 2
tests_before (Some Aggregates) = 3
tests_before (Some Tree) = 4
tests_before (Some Room) = 5
tests_before None = 6

-- how many of the tests of its slot a provider passes, one after another
abbrev pub count_met : List Provider → Placed → ℕ
count_met all x = tests_before (first_failed all x)

-- what is left of the first class that is short, where room alone is wanting
abbrev pub left_where : ℕ → Provider → List (List ℕ × ℕ) → ℕ
left_where met p needs = if met == 5 then option_map_or (λ need. left_of (inventory_of p need.0) (used_of p need.0)) (first_short p needs) 0 else 0

abbrev pub short_left : List Provider → Placed → ℕ
short_left all x = left_where (count_met all x) (provider_at all x.provider) x.slot.needs

-- one provider comes further than another: it passes more tests, or where room alone is wanting in both, it has more left
abbrev pub is_further : List Provider → Placed → Placed → Bool
is_further all x y = nat_lt (count_met all y) (count_met all x) || (count_met all y == count_met all x && nat_lt (short_left all y) (short_left all x))

-- nobody who is available in the tree of a root comes further
abbrev pub is_furthest : List Provider → Slot → ℕ → ℕ → Bool
is_furthest all slot r p = not (list_any (λ q. is_further all (in_slot slot q) (in_slot slot p)) (hosts_of all r))

-- the first of those who are available there, in the order of places
abbrev pub furthest : List Provider → Slot → ℕ → Option ℕ
furthest all slot r = find (λ p. is_furthest all slot r p) (hosts_of all r)

-- ---- What nobody has

-- the first of some classes, by its place, of which nobody who is available in the tree of a root has an inventory
abbrev pub class_of_nobody : List Provider → ℕ → List (List ℕ × ℕ) → Option ℕ
class_of_nobody all r needs = find (λ k. not (somebody_there_has_class all r (get_or needs k ([], 0)).0)) (range_with_len 0 (length needs))

-- ---- What is wanting at each root

abbrev pub wanting : List Provider → Slot → ℕ → Wanting
wanting all slot r = record { provider = furthest all slot r; class = class_of_nobody all r slot.needs }

-- in the slot that it lacks a provider for
abbrev pub wanting_where : List Provider → Asked → ℕ → Option Lack → Option Wanting
wanting_where all asked r (Some (lack.Slot slot stage)) = Some (wanting all (slot_at asked (slot - 1)) r)
wanting_where all asked r _ = None

-- of each provider as a root, by its place
abbrev pub wantings : List Provider → Asked → List (Option Wanting)
wantings all asked = map (λ r. wanting_where all asked r (lack_at all asked r)) (range_with_len 0 (length all))
