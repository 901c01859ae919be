-- Private: sums at all roots, and what is found there least often so far.
use Rattle.std.specs.Prelude.{◌≡◌, ◌+◌, ◌-◌, ◌^◌, ◌<◌, ◌&&◌, ℕ, Bool, false, min, nat_lt, List, length, map, slice_index, slice_index_or, Option, Some, None, if◌then◌else◌}
use Rattle.std.specs.Option.{option_map, unwrap_or}
use Rattle.std.specs.List.{filter, fold, range_with_len}
use Rattle.ac_base.specs.Names.{class_bytes}
use Rattle.ac_cloud.specs.World.{Provider}
use Rattle.ac_prune.specs.Ahead.{hosts_of, load_in}
use Rattle.ac_prune.specs.Loads.{brought_at, load_at}
use Rattle.ac_query.specs.Asked.{Asked, Slot}
use Rattle.ac_fill.specs.Bounds.{Want, is_of, times, wants}
use Rattle.ac_fill.specs.declared.bound.Short.{Short}
use Rattle.ac_fill.specs.declared.found.Found.{Found}
use Rattle.ac_fill.specs.declared.found.Rarest.{Rarest}

-- ---- sums at all roots

-- a number of 128 bits is a sum, or both are the greatest number or more
abbrev pub IsSum : ℕ → ℕ → Type 0
IsSum number sum = min number (2 ^ 128 - 1) ≡ min sum (2 ^ 128 - 1)

-- a number is added at each root of a list
abbrev pub IsAdded : List ℕ → List ℕ → ℕ → List ℕ → Type 0
IsAdded old roots number new = (r : ℕ) → r < length old → IsSum (slice_index new r) (slice_index old r + load_in (λ x. x) (λ _. number) roots r)

-- what lists of roots bring is added at each root
abbrev pub AreBrought : List ℕ → List (List ℕ) → List ℕ → List ℕ → Type 0
AreBrought old lists sums new = (r : ℕ) → r < length old → IsSum (slice_index new r) (slice_index old r + brought_at lists sums r)

-- what is at each root, with what lists bring to it, is what its providers have together
abbrev pub AreSplit : List Provider → List ℕ → List (List ℕ) → List ℕ → List ℕ → Type 0
AreSplit all numbers lists sums own = (r : ℕ) → r < length all → IsSum (slice_index own r + brought_at lists sums r) (load_at all numbers r)

-- what the providers of each root have together
abbrev pub AreSums : List Provider → List ℕ → List ℕ → Type 0
AreSums all numbers sums = (r : ℕ) → r < length all → slice_index sums r ≡ load_at all numbers r

-- ---- what is found least often

-- a class, and how often some providers have together what is asked of it
abbrev pub found_in : Found → List ℕ × ℕ
found_in f = (class_bytes f.class.now, f.times)

-- this of what is wanted
abbrev pub found_at : List Provider → List ℕ → Want → List ℕ × ℕ
found_at all places want = (want.need.0, times all places want)

-- the first of two that are found, unless the second is found less often
abbrev pub rarer : Option (List ℕ × ℕ) → List ℕ × ℕ → Option (List ℕ × ℕ)
rarer None other = Some other
rarer (Some first) other = if nat_lt other.1 first.1 then Some other else Some first

-- the first of those that are found least often, where one was found before
abbrev pub rarest : Option (List ℕ × ℕ) → List Provider → List ℕ → List Want → Option (List ℕ × ℕ)
rarest before all places ws = fold rarer before (map (found_at all places) ws)

-- what a slot wants of some of its classes
abbrev pub wants_of : Slot → List (List ℕ × ℕ) → List Want
wants_of slot needs = map (λ need. record { slot = slot; need = need }) (filter (λ need. nat_lt 0 need.1) needs)

-- what is found at a root
abbrev pub root_in : List (Option Found) → ℕ → Option (List ℕ × ℕ)
root_in roots r = option_map found_in (slice_index_or roots r None)

-- what is found of one class at each root is the rarer there, where it is
abbrev pub AreRarer : List (Option Found) → List ℕ → List ℕ → List (Option Found) → Type 0
AreRarer old class sums new = (r : ℕ) → r < length old → root_in new r ≡ rarer (root_in old r) (class, slice_index sums r)

-- What is wanted is found, by all providers together and at each root.
pub record Finds (all : List Provider) (ws : List Want) (old new : Rarest) : Type 0 where
  pub count : length new.roots.items ≡ length old.roots.items
  pub together : option_map found_in new.together ≡ rarest (option_map found_in old.together) all (range_with_len 0 (length all)) ws
  pub roots : (r : ℕ) → r < length all → root_in new.roots.items r ≡ rarest (root_in old.roots.items r) all (hosts_of all r) ws

-- All that is wanted is found.
pub record AreFound (all : List Provider) (asked : Asked) (found : Rarest) : Type 0 where
  pub count : length found.roots.items ≡ length all
  pub together : option_map found_in found.together ≡ rarest None all (range_with_len 0 (length all)) (wants asked)
  pub roots : (r : ℕ) → r < length all → root_in found.roots.items r ≡ rarest None all (hosts_of all r) (wants asked)

-- ---- what is told

abbrev pub short_entry : Short → List ℕ × ℕ
short_entry s = (class_bytes s.class.now, s.roots)

-- how often it is found, and of which class
abbrev pub times_found : Option Found → ℕ
times_found found = unwrap_or (option_map (λ f. f.times) found) 0

abbrev pub class_found : Option Found → Option (List ℕ)
class_found found = option_map (λ f. class_bytes f.class.now) found

-- this at a root
abbrev pub times_in : List (Option Found) → ℕ → ℕ
times_in roots r = times_found (slice_index_or roots r None)

abbrev pub class_in : List (Option Found) → ℕ → Option (List ℕ)
class_in roots r = class_found (slice_index_or roots r None)

-- at how many roots that are marked a class is found
abbrev pub count_at : List (Option Found) → List Bool → List ℕ → ℕ
count_at roots marks class = length (filter (λ r. slice_index_or marks r false && is_of class (class_in roots r)) (range_with_len 0 (length marks)))

-- those of some classes that are found at marked roots, with how many these are
abbrev pub shorts_at : List (Option Found) → List Bool → List (List ℕ) → List (List ℕ × ℕ)
shorts_at roots marks classes = filter (λ short. nat_lt 0 short.1) (map (λ class. (class, count_at roots marks class)) classes)
