use Rattle.std.proofs.Common.{◌≡◌, ℕ, ◌+◌, ◌&&◌, drop, slice_index}
use Rattle.ac_cloud.specs.Cloud.CloudWorld.{providers_of}
use Rattle.ac_cloud.specs.World.{is_available_at}
use Rattle.ac_prune.specs.Marks.{turned}
use Rattle.ac_prune.specs.Trees.Keys.{is_there}
use Rattle.ac_prune.proofs.ledger.marks.hit.Given as goal

abbrev pub invariant-loop-root : goal.invariant-loop-root
invariant-loop-root l =
    (r : ℕ) → turned (is_there (drop l.root-index l.roots) r && is_available_at (providers_of l.cloud) l.ix r) l.depth (l.depth + 1) (slice_index l.hits r)
    ≡ turned (is_there l.roots r && is_available_at (providers_of l.cloud) l.ix r) l.depth (l.depth + 1) (slice_index l.fn.hits r)
