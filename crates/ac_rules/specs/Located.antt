-- Tokens in a cloud: the places of their providers, and the ids of places.
use Rattle.std.specs.Prelude.{ℕ, List, [], ◌∷◌, map, Option, Some}
use Rattle.std.specs.Option.{option_map, option_and_then}
use Rattle.ac_cloud.specs.World.{Provider, id_at, place_of}

-- the places of the providers of all these ids; none where one is no provider's
abbrev pub places_of : List Provider → List ℕ → Option (List ℕ)
places_of all [] = Some []
places_of all (id ∷ ids) = option_and_then (λ place. option_map (λ places. place ∷ places) (places_of all ids)) (place_of all id)

-- the ids of the providers at these places
abbrev pub ids_at : List Provider → List ℕ → List ℕ
ids_at all list = map (id_at all) list
