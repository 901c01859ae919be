-- How many placements there can be at most, in whatever order they are made, and which class each root is short of.
use Rattle.std.specs.Prelude.{ℕ, ◌/◌, ◌==◌, ◌&&◌, min, nat_lt, Bool, false, List, [], length, map, sum_by, bytes_eq, Option, Some, None, unwrap_or, if◌then◌else◌}
use Rattle.std.specs.Option.{option_map}
use Rattle.std.specs.List.{filter, flat_map, fold, range_with_len}
use Rattle.ac_cloud.specs.World.{Provider, UsedInventory, entry_in, provider_at}
use Rattle.ac_prune.specs.Ahead.{hosts_of}
use Rattle.ac_prune.specs.Fitting.{fits_at}
use Rattle.ac_query.specs.Asked.{Asked, Slot, slots_of}
use Rattle.ac_rules.specs.Lists.{head_of}
use Rattle.ac_rules.specs.Own.{fits}
use Rattle.ac_rules.specs.Shown.Classes.{with_classes}
use Rattle.ac_fill.specs.Filled.{units_in}

-- ---- What is wanted

-- a slot, and a class of which it asks an amount
pub record Want : Type 0 where
  pub slot : Slot
  pub need : List ℕ × ℕ

-- what a slot wants, class by class
abbrev pub slot_wants : Slot → List Want
slot_wants slot = map (λ need. record { slot = slot; need = need }) (filter (λ need. nat_lt 0 need.1) slot.needs)

-- what all slots want, one after another
abbrev pub wants : Asked → List Want
wants asked = flat_map slot_wants (slots_of asked)

-- what is left of an inventory that may be there
abbrev pub units_of : Option UsedInventory → ℕ
units_of None = 0
units_of (Some had) = units_in had

-- how often the provider at a place has what is wanted; never where a rule of the slot alone refuses it
abbrev pub times_at : List Provider → Want → ℕ → ℕ
times_at all want ix =
    if fits all (record { slot = want.slot; provider = ix }) then units_of (entry_in (provider_at all ix) want.need.0) / want.need.1 else 0

-- how often the providers at some places have it together
abbrev pub times : List Provider → List ℕ → Want → ℕ
times all places want = sum_by (times_at all want) places

-- ---- The bound

-- the lesser of two numbers, where there is a first one
abbrev pub lesser : Option ℕ → ℕ → Option ℕ
lesser None n = Some n
lesser (Some m) n = Some (min m n)

-- the least of some numbers; 0 where there are none
abbrev pub least : List ℕ → ℕ
least ns = unwrap_or (fold lesser None ns) 0

-- the least, over all that is wanted, of how often the providers at some places have it together
unfoldable pub most_of : List Provider → List ℕ → Asked → ℕ
most_of all places asked = least (map (times all places) (wants asked))

-- this of all providers
abbrev pub most_together : List Provider → Asked → ℕ
most_together all asked = most_of all (range_with_len 0 (length all)) asked

-- this of the providers that are available in the tree of a root
abbrev pub most_at : List Provider → Asked → ℕ → ℕ
most_at all asked r = most_of all (hosts_of all r) asked

-- the sum of these, over the roots that fit
unfoldable pub most_by_root : List Provider → Asked → ℕ
most_by_root all asked = sum_by (most_at all asked) (filter (fits_at all asked) (range_with_len 0 (length all)))

-- So many placements there can be at most: each stands at a root that fits before the first one is made.
abbrev pub most_placed : List Provider → Asked → ℕ
most_placed all asked = min (most_together all asked) (most_by_root all asked)

-- ---- What is short

-- The class that a root is short of: the first that is wanted of which its providers have together what is asked least often.
unfoldable pub short_at : List Provider → Asked → ℕ → Option (List ℕ)
short_at all asked r =
    option_map (λ want. want.need.0) (head_of (filter (λ want. times all (hosts_of all r) want == most_at all asked r) (wants asked)))

-- it is this class
abbrev pub is_of : List ℕ → Option (List ℕ) → Bool
is_of class None = false
is_of class (Some short) = bytes_eq short class

-- how many roots that fit are short of a class
abbrev pub count_short : List Provider → Asked → List ℕ → ℕ
count_short all asked class = length (filter (λ r. fits_at all asked r && is_of class (short_at all asked r)) (range_with_len 0 (length all)))

-- the classes that are wanted, each once, as they first come
abbrev pub wanted_classes : Asked → List (List ℕ)
wanted_classes asked = with_classes [] (map (λ want. want.need) (wants asked))

-- Each class that roots are short of, with how many these are.
unfoldable pub shorts : List Provider → Asked → List (List ℕ × ℕ)
shorts all asked = filter (λ short. nat_lt 0 short.1) (map (λ class. (class, count_short all asked class)) (wanted_classes asked))
