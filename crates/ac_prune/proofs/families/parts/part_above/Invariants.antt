use Rattle.std.proofs.Common.{◌<◌, length}
use Rattle.ac_cloud.specs.Cloud.CloudWorld.{providers_of}
use Rattle.ac_prune.proofs.families.parts.part_above.Given as goal

abbrev pub invariant-loop : goal.invariant-loop
invariant-loop l = l.at < length (providers_of l.cloud)
