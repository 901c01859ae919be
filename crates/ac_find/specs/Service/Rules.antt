-- What the running service's own rules give, where docs/DIFFERENCES.md says what they are: `isolate` and groups without resources, and capacities in
-- floating point. All other rules are these.
use Rattle.std.specs.Prelude.{◌≡◌, ℕ, ◌+◌, ◌-◌, ◌==◌, ◌&&◌, ◌||◌, Bool, true, false, not, nat_le, List, [], ◌∷◌, length, Option, None, Some}
use Rattle.std.specs.List.{filter, list_all}
use Rattle.std.specs.Option.{is_some}
use Rattle.ac_base.specs.Quantities.{InventoryNumbers}
use Rattle.ac_query.specs.Asked.{Asked, is_isolated, slots_of}
use Rattle.ac_cloud.specs.World.{Provider, provider_at, used_of}
use Rattle.ac_rules.specs.Lists.{all_lists}
use Rattle.ac_rules.specs.Own.{fits, inventory_of}
use Rattle.ac_rules.specs.Pages.{candidates}
use Rattle.ac_rules.specs.Placed.{Placed, assigned}
use Rattle.ac_rules.specs.Together.{anchor, collective, isolate, subtree, sum_on, sums}
use Rattle.ac_find.specs.Service.Differing.{applies}
use Rattle.ac_find.specs.Service.Doubles.{capacity_by}
use Rattle.ac_find.specs.declared.differences.Difference.TheVariants as difference

-- ---- Isolate

-- two slots with suffixes aren't on one provider, whether or not they ask for resources
abbrev pub are_apart_there : Placed → Placed → Bool
are_apart_there x y = not (is_some x.slot.suffix && is_some y.slot.suffix && (x.provider == y.provider))

-- every two slots
abbrev pub all_apart_there : List Placed → Bool
all_apart_there [] = true
all_apart_there (x ∷ xs) = list_all (λ y. are_apart_there x y) xs && all_apart_there xs

abbrev pub isolate_there : Asked → List Placed → Bool
isolate_there asked xs = not (is_isolated asked) || all_apart_there xs

-- ---- Sums

-- the sum is within `max_unit`, and with what is used within the capacity in double precision; over MariaDB, what the slot asks is within what is left by a
-- ratio in single precision, too
abbrev pub has_room_there : Bool → Option InventoryNumbers → ℕ → ℕ → ℕ → Bool
has_room_there mariadb None used amount sum = false
has_room_there mariadb (Some i) used amount sum =
    nat_le sum i.max_unit && nat_le (used + sum) (capacity_by 53 i) && (not mariadb || nat_le amount (capacity_by 24 i - used))

abbrev pub holds_sums_there : Bool → List Provider → List Placed → Placed → Bool
holds_sums_there mariadb all xs x =
    list_all (λ need. has_room_there mariadb (inventory_of (provider_at all x.provider) need.0) (used_of (provider_at all x.provider) need.0) need.1 (sum_on xs x.provider need.0)) x.slot.needs

abbrev pub sums_there : Bool → List Provider → List Placed → Bool
sums_there mariadb all xs = list_all (λ x. holds_sums_there mariadb all xs x) xs

-- ---- Candidates

-- a list keeps the nine rules, where Sums and Isolate are these
abbrev pub keeps_by : List Provider → Asked → (List Placed → Bool) → (List Placed → Bool) → List Placed → Bool
keeps_by all asked sums_rule isolate_rule xs =
    list_all (λ x. fits all x) xs && (collective all asked xs && (sums_rule xs && (isolate_rule xs && (subtree all asked xs && anchor all asked xs))))

-- the candidates by such rules
abbrev pub candidates_by : List Provider → Asked → (List Placed → Bool) → (List Placed → Bool) → List (List ℕ)
candidates_by all asked sums_rule isolate_rule =
    filter (λ t. keeps_by all asked sums_rule isolate_rule (assigned asked t)) (all_lists (length all) (length (slots_of asked)))

-- where the heading isn't named, the service's `isolate` gives the same candidates
abbrev pub IsolateAgrees : Type 0
IsolateAgrees = (all : List Provider) (asked : Asked) → applies all asked difference.IsolateWithoutResources ≡ false
    → candidates_by all asked (sums all) (isolate_there asked) ≡ candidates all asked

-- so do its capacities in floating point, whatever the database
abbrev pub FloatsAgree : Type 0
FloatsAgree = (all : List Provider) (asked : Asked) (mariadb : Bool) → applies all asked difference.FloatingPoint ≡ false
    → candidates_by all asked (sums_there mariadb all) (isolate asked) ≡ candidates all asked
