use Rattle.std.proofs.Common.{◌≡◌, ◌+◌, drop}
use Rattle.ac_cloud.specs.Cloud.CloudWorld.{providers_of}
use Rattle.ac_search.specs.Between.{rank_of}
use Rattle.ac_search.proofs.least.rank.Given as goal

abbrev pub invariant-loop-ix : goal.invariant-loop-ix
invariant-loop-ix l = l.ix + rank_of (drop l.ix (providers_of l.cloud)) l.id ≡ rank_of (providers_of l.cloud) l.id
