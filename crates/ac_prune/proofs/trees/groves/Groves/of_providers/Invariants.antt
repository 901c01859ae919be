use Rattle.std.proofs.Common.{◌≡◌, ◌<◌, ℕ, length, slice_index_or}
use Rattle.std.specs.Global.{Vec}
use Rattle.ac_cloud.specs.Cloud.CloudWorld.{providers_of}
use Rattle.ac_cloud.specs.World.{anchors_of}
use Rattle.ac_prune.specs.Trees.{HaveGroves}
use Rattle.ac_prune.proofs.trees.groves.Groves.of_providers.Given as goal

abbrev pub invariant-loop-ix : goal.invariant-loop-ix
invariant-loop-ix l = record {
  count : length l.all.items ≡ l.ix;
  each : (p : ℕ) (d : Vec ℕ) → p < l.ix → HaveGroves l.self.of_roots.items (anchors_of (providers_of l.cloud) p) (slice_index_or l.all.items p d).items;
}
