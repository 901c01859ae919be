-- Which provider a text names.
use Rattle.std.specs.Prelude.{ℕ, ◌∷◌, List, [], length, Option, Some, None, Result, Ok, Err}
use Rattle.std.specs.Option.{option_and_then}
use Rattle.std.specs.List.{filter, range_with_len}
use Rattle.ac_base.specs.Texts.{id_value}
use Rattle.ac_cloud.specs.World.{Provider, provider_at, place_of, has_name}
use Rattle.ac_cloud.specs.declared.cloud.provider_name.HostFault.{HostFault}
use Rattle.ac_cloud.specs.declared.cloud.provider_name.HostFault.TheVariants as fault

-- the places of the providers of this name
abbrev pub places_named : List Provider → List ℕ → List ℕ
places_named all name = filter (λ ix. has_name (provider_at all ix) name) (range_with_len 0 (length all))

-- the only one of some places
abbrev pub only_one : List ℕ → Result ℕ HostFault
only_one [] = Err fault.Unknown
only_one (ix ∷ []) = Ok ix
only_one (ix ∷ next ∷ more) = Err fault.Ambiguous

-- this place where there is one, else the only one of these
abbrev pub place_or_only : Option ℕ → List ℕ → Result ℕ HostFault
place_or_only (Some ix) named = Ok ix
place_or_only None named = only_one named

-- the provider that a text names: the one whose UUID it is, else the only one of this name
unfoldable pub host_of : List Provider → List ℕ → Result ℕ HostFault
host_of all text = place_or_only (option_and_then (place_of all) (id_value text)) (places_named all text)
