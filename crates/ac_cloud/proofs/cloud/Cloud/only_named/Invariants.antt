use Rattle.ac_cloud.proofs.Common.{◌≡◌, filter, range_with_len, providers_of, provider_at}
use Rattle.std.specs.Option.{option_to_list}
use Rattle.ac_cloud.specs.World.{has_name}
use Rattle.ac_cloud.proofs.cloud.Cloud.only_named.Given as goal

abbrev pub invariant-loop-ix : goal.invariant-loop-ix
invariant-loop-ix l = filter (λ ix. has_name (provider_at (providers_of l.self) ix) l.name) (range_with_len 0 l.ix) ≡ option_to_list l.found
