use Rattle.std.proofs.Common.{◌≡◌, ◌<◌, ℕ, length, slice_index_or}
use Rattle.std.specs.Prelude.{[], get_or}
use Rattle.std.specs.Global.{Vec}
use Rattle.ac_cloud.specs.Cloud.CloudWorld.{root_lists_of}
use Rattle.ac_prune.specs.Trees.{HaveGroves}
use Rattle.ac_prune.proofs.trees.groves.Groves.of.Given as goal

abbrev pub invariant-loop-list : goal.invariant-loop-list
invariant-loop-list l = record {
  count : length l.of_lists.items ≡ l.list-index;
  each : (k : ℕ) (d : Vec ℕ) → k < l.list-index → HaveGroves l.of_roots.items (get_or (root_lists_of l.cloud) k []) (slice_index_or l.of_lists.items k d).items;
}
