use Rattle.std.proofs.Common.{◌≡◌, length}
use Rattle.ac_cloud.specs.Cloud.CloudWorld.{providers_of}
use Rattle.ac_prune.proofs.families.parts.draft.Given as goal

abbrev pub invariant-loop-ix : goal.invariant-loop-ix
invariant-loop-ix l = record {
  parts : length l.parts.items ≡ length (providers_of l.cloud);
  known : length l.known.items ≡ length (providers_of l.cloud);
}
