use Rattle.std.proofs.Common.{◌≡◌, ◌<◌, length}
use Rattle.ac_cloud.specs.Cloud.CloudWorld.{providers_of}
use Rattle.ac_prune.proofs.families.parts.put_up.Given as goal

abbrev pub invariant-loop : goal.invariant-loop
invariant-loop l = record {
  at : l.at < length (providers_of l.cloud);
  parts : length l.parts ≡ length (providers_of l.cloud);
  known : length l.known ≡ length (providers_of l.cloud);
}
