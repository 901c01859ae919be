-- How far a provider comes, as one number: a greater one comes further, or as far at an earlier place.
use Rattle.std.specs.Prelude.{◌≡◌, ℕ, ◌+◌, ◌-◌, ◌*◌, ◌%◌, ◌==◌, ◌<◌, ◌||◌, Bool, false, nat_lt, nat_le, List, length, map, slice_index, slice_index_or, Option, None, Some, if◌then◌else◌}
use Rattle.std.specs.List.{list_any, range_with_len}
use Rattle.std.specs.Option.{option_or}
use Rattle.ac_query.specs.Asked.{Asked, Slot}
use Rattle.ac_cloud.specs.World.{Provider, provider_at}
use Rattle.ac_rules.specs.Placed.{Placed, slot_at}
use Rattle.ac_prune.specs.Ahead.{hosts_of}
use Rattle.ac_find.specs.Explained.{has_inventory, in_slot}
use Rattle.ac_find.specs.Furthest.{count_met, short_left, wanting}
use Rattle.ac_find.specs.Shown.Lacking.{is_listed}
use Rattle.ac_find.specs.declared.lacks.Lack.{Lack}
use Rattle.ac_find.specs.declared.lacks.Lack.TheVariants as lack
use Rattle.ac_find.specs.declared.furthest.Wanting.{Wanting}

-- the tests that are passed above what is left, and that above how early the place is
abbrev pub ranked : ℕ → ℕ → ℕ → ℕ
ranked met left place = met * 79228162514264337593543950336 + (left * 4294967296 + (4294967295 - place))

abbrev pub rank : List Provider → Placed → ℕ
rank all x = ranked (count_met all x) (short_left all x) x.provider

-- at which place, by that number; 0 is nobody's
abbrev pub place_in : ℕ → Option ℕ
place_in rank = if rank == 0 then None else Some (4294967295 - rank % 4294967296)

-- what is left of each of the first providers is a number of 64 bits
abbrev pub AreSmall : List Provider → Slot → ℕ → Type 0
AreSmall all slot n = (p : ℕ) → p < n → short_left all (in_slot slot p) < 18446744073709551616

-- of each root the greatest number of a provider available in its tree
abbrev pub AreRanked : List Provider → Slot → List ℕ → Type 0
AreRanked all slot ranks = (k r : ℕ) → r < length all → nat_lt k (slice_index ranks r) ≡ list_any (λ p. nat_lt k (rank all (in_slot slot p))) (hosts_of all r)

-- the same, where lists of roots are noted for themselves
abbrev pub AreRankedBeside : List Provider → Slot → List (List ℕ) → List ℕ → List ℕ → Type 0
AreRankedBeside all slot lists listed ranks = (k r : ℕ) → r < length all
    → (nat_lt k (slice_index ranks r) || is_listed k lists listed r) ≡ list_any (λ p. nat_lt k (rank all (in_slot slot p))) (hosts_of all r)

-- ---- What is wanting

-- 1 for each provider that has an inventory of a class, and else 0
abbrev pub having : List Provider → List ℕ → List ℕ
having all class = map (λ p. if has_inventory (provider_at all p) class then 1 else 0) (range_with_len 0 (length all))

-- the class at each root stays, and where there is none, this one is noted if nobody has it
abbrev pub AreClasses : List (Option ℕ) → ℕ → List Bool → List (Option ℕ) → Type 0
AreClasses old class had new = (r : ℕ) → r < length old → slice_index_or new r None ≡ option_or (slice_index_or old r None) (if slice_index_or had r false then None else Some class)

-- a root lacks a provider for the slot of this number
abbrev pub is_of_slot : ℕ → Option Lack → Bool
is_of_slot number (Some (lack.Slot slot stage)) = slot == number
is_of_slot number _ = false

-- what is wanting at the roots that lack a provider for a slot, where it is noted; at each other root what is noted there stays
abbrev pub AreWanting : List (Option Wanting) → List (Option Lack) → ℕ → List (Option ℕ) → List (Option ℕ) → List (Option Wanting) → Type 0
AreWanting old lacks number places classes new = (r : ℕ) → r < length old
    → slice_index_or new r None ≡ (if is_of_slot number (slice_index_or lacks r None) then Some (record { provider = slice_index_or places r None; class = slice_index_or classes r None }) else slice_index_or old r None)

abbrev pub AreFound : List Provider → Slot → ℕ → List (Option Lack) → List (Option Wanting) → List (Option Wanting) → Type 0
AreFound all slot number lacks old new = (r : ℕ) → r < length all
    → slice_index_or new r None ≡ (if is_of_slot number (slice_index_or lacks r None) then Some (wanting all slot r) else slice_index_or old r None)

-- what is wanting in the first slots, where a provider is lacking for one of them
abbrev pub wanting_below : List Provider → Asked → ℕ → ℕ → Option Lack → Option Wanting
wanting_below all asked count r (Some (lack.Slot slot stage)) = if nat_le slot count then Some (wanting all (slot_at asked (slot - 1)) r) else None
wanting_below all asked count r _ = None
