use Rattle.std.proofs.Common.{◌≡◌, ◌++◌, drop}
use Rattle.std.specs.Option.{option_map}
use Rattle.ac_cloud.specs.Cloud.CloudWorld.{providers_of}
use Rattle.ac_rules.specs.Located.{places_of}
use Rattle.ac_query.specs.Tokens.{ids_of}
use Rattle.ac_rules.proofs.located.TokenInCloud.locate.Given as goal

abbrev pub invariant-loop-id : goal.invariant-loop-id
invariant-loop-id l =
    places_of (providers_of l.cloud) (ids_of l.self) ≡ option_map (λ rest. l.places.items ++ rest) (places_of (providers_of l.cloud) (drop l.id-index (ids_of l.self)))
