use Rattle.std.proofs.Common.{◌≡◌}
use Rattle.ac_cloud.specs.World.{id_at, is_root}
use Rattle.ac_cloud.specs.Cloud.CloudWorld.{providers_of}
use Rattle.ac_find.specs.Explained.{count_below}
use Rattle.ac_find.proofs.counts.count_roots.Given as goal

abbrev pub invariant-loop-ix : goal.invariant-loop-ix
invariant-loop-ix l = l.count ≡ count_below l.ix (λ r. is_root (providers_of l.cloud) (id_at (providers_of l.cloud) r))
