use Rattle.std.proofs.Common.{◌≡◌, ◌<◌, ℕ, true, false, length, slice_index, slice_index_or}
use Rattle.ac_cloud.specs.Cloud.CloudWorld.{providers_of}
use Rattle.ac_prune.specs.Marks.{stand_at}
use Rattle.ac_search.proofs.walk.leave.leave.Given as goal

abbrev pub invariant-loop-root : goal.invariant-loop-root
invariant-loop-root l = record {
  count : length l.marks ≡ length (providers_of l.cloud);
  left : (j : ℕ) → j < l.root-index → stand_at (providers_of l.cloud) l.list (slice_index l.roots j) ≡ true → slice_index_or l.marks (slice_index l.roots j) false ≡ false;
  kept : (r : ℕ) → stand_at (providers_of l.cloud) l.list r ≡ false → slice_index_or l.marks r false ≡ slice_index_or l.fn.marks r false;
}
