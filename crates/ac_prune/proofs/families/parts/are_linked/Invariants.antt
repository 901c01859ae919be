use Rattle.std.proofs.Common.{◌<◌, ℕ}
use Rattle.ac_cloud.specs.Cloud.CloudWorld.{providers_of}
use Rattle.ac_prune.specs.Parts.{IsLinked}
use Rattle.ac_prune.proofs.families.parts.are_linked.Given as goal

abbrev pub invariant-loop-ix : goal.invariant-loop-ix
invariant-loop-ix l = (p : ℕ) → p < l.ix → IsLinked (providers_of l.cloud) l.tops l.parts p
