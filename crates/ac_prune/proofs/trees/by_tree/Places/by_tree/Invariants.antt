use Rattle.std.proofs.Common.{◌≡◌, ◌<◌, ℕ, true, length, slice_index}
use Rattle.ac_cloud.specs.Cloud.CloudWorld.{providers_of}
use Rattle.ac_cloud.specs.World.{is_available_at}
use Rattle.ac_prune.specs.Trees.Keys.{IsUnder}
use Rattle.ac_prune.proofs.trees.by_tree.Places.by_tree.Given as goal

abbrev pub invariant-loop-place : goal.invariant-loop-place
invariant-loop-place l = (i r : ℕ) → i < l.place → r < length (providers_of l.cloud) → is_available_at (providers_of l.cloud) (slice_index l.choices i) r ≡ true
    → IsUnder l.keys.items (slice_index l.groves.of_roots.items r) r i
