-- What is told of the roots that lack a trait which the group without a suffix requires, as it is found.
use Rattle.std.specs.Prelude.{◌≡◌, ℕ, ◌<◌, ◌&&◌, Bool, true, false, List, length, map, slice_index_or, Option, None, Some, if◌then◌else◌}
use Rattle.std.specs.List.{range_with_len}
use Rattle.std.specs.Option.{is_none, option_or}
use Rattle.ac_cloud.specs.World.{Provider}
use Rattle.ac_find.specs.declared.lacks.Lack.{Lack}
use Rattle.ac_find.specs.declared.lacks.Lack.TheVariants as lack
use Rattle.ac_find.specs.declared.unheld.of_roots.Unheld.{Unheld}

-- a root lacks such a trait
abbrev pub lacks_traits : Option Lack → Bool
lacks_traits (Some lack.RequiredTraits) = true
lacks_traits _ = false

-- the marks of the roots that lack one, and of which nothing is told yet
abbrev pub open_roots : List (Option Lack) → List (Option Unheld) → List Bool
open_roots lacks found = map (λ r. lacks_traits (slice_index_or lacks r None) && is_none (slice_index_or found r None)) (range_with_len 0 (length found))

-- what is told of a root that lacks one stays, and where nothing is, this is told; at each other root what is there stays
abbrev pub told_more : Option Lack → Option Unheld → Option Unheld → Option Unheld
told_more lacks old more = if lacks_traits lacks then option_or old more else old

-- the same at each root, by marks of those at which it is held
abbrev pub AreMarked : List (Option Unheld) → List (Option Lack) → Unheld → List Bool → List (Option Unheld) → Type 0
AreMarked old lacks thing held new = (r : ℕ) → r < length old
    → slice_index_or new r None ≡ told_more (slice_index_or lacks r None) (slice_index_or old r None) (if slice_index_or held r false then None else Some thing)

-- the same at each root, by what there is to tell
abbrev pub AreTold : List Provider → (ℕ → Option Unheld) → List (Option Lack) → List (Option Unheld) → List (Option Unheld) → Type 0
AreTold all more lacks old new = (r : ℕ) → r < length all → slice_index_or new r None ≡ told_more (slice_index_or lacks r None) (slice_index_or old r None) (more r)
