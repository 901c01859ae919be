-- How far the providers of each root come in a slot, and which slots were found that none of them serves.
use Rattle.std.specs.Prelude.{◌≡◌, ℕ, ◌<◌, ◌/◌, ◌&&◌, zero, suc, Bool, nat_lt, List, [], map, length, get_or, slice_index, slice_index_or, Option, None}
use Rattle.std.specs.List.{list_any, range_with_len}
use Rattle.std.specs.Option.{option_map, option_or}
use Rattle.ac_query.specs.Asked.{Slot}
use Rattle.ac_cloud.specs.World.{Provider}
use Rattle.ac_rules.specs.Placed.{Placed}
use Rattle.ac_prune.specs.Trees.Keys.{is_there}
use Rattle.ac_find.specs.Explained.{has_inventories, meets_units, meets_traits, meets_aggregates, meets_tree, meets_room}
use Rattle.ac_find.specs.Lacking.{first_unserved, if_failed}
use Rattle.ac_find.specs.declared.lacks.Stage.{Stage}
use Rattle.ac_find.specs.declared.lacks.Stage.TheVariants.{Inventory, Units, Traits, Aggregates, Tree, Room}
use Rattle.ac_find.specs.declared.lacks.Lack.{Lack}
use Rattle.ac_find.specs.declared.lacks.Lack.TheVariants as lack

-- the six tests of a slot's provider by their number, from 0
abbrev pub passes : ℕ → List Provider → Placed → Bool
passes zero all x = has_inventories all x
passes (suc zero) all x = meets_units all x
passes (suc (suc zero)) all x = meets_traits all x
passes (suc (suc (suc zero))) all x = meets_aggregates all x
passes (suc (suc (suc (suc zero)))) all x = meets_tree all x
passes (suc (suc (suc (suc (suc k))))) all x = meets_room all x

-- by a number for each list: some list that has a root came so far
abbrev pub is_listed : ℕ → List (List ℕ) → List ℕ → ℕ → Bool
is_listed k lists reached r = list_any (λ j. is_there (get_or lists j []) r && nat_lt k (slice_index reached j)) (range_with_len 0 (length lists))

-- how many tests are passed, by the number of how far a provider comes
abbrev pub tests_in : ℕ → ℕ
tests_in rank = rank / 79228162514264337593543950336

-- the first test that isn't passed where so many are
abbrev pub stage_behind : ℕ → Option Stage
stage_behind n =
    if_failed (nat_lt 0 n) Inventory
    (if_failed (nat_lt 1 n) Units
    (if_failed (nat_lt 2 n) Traits
    (if_failed (nat_lt 3 n) Aggregates
    (if_failed (nat_lt 4 n) Tree
    (if_failed (nat_lt 5 n) Room None)))))

-- what is lacking of a slot where so many tests are passed
abbrev pub lack_behind : ℕ → ℕ → Option Lack
lack_behind number passed = option_map (λ stage. lack.Slot number stage) (stage_behind passed)

-- what is lacking at each root stays, and where nothing is, this slot is looked at
abbrev pub AreNoted : List (Option Lack) → ℕ → List ℕ → List (Option Lack) → Type 0
AreNoted old number ranks new = (r : ℕ) → r < length old → slice_index_or new r None ≡ option_or (slice_index_or old r None) (lack_behind number (tests_in (slice_index ranks r)))

-- the first of some slots that none of the providers available at each root serves by itself
abbrev pub unserved : List Provider → List Slot → List (Option Lack)
unserved all slots = map (λ r. first_unserved all r 1 slots) (range_with_len 0 (length all))
