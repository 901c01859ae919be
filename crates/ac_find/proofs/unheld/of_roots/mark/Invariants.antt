use Rattle.std.proofs.Common.{◌≡◌, ◌<◌, ◌≤◌, ℕ, Some, None, false, length, slice_index_or, if◌then◌else◌}
use Rattle.ac_find.specs.Shown.Unheld.{told_more}
use Rattle.ac_find.proofs.unheld.of_roots.mark.Given as goal

abbrev pub invariant-loop-r : goal.invariant-loop-r
invariant-loop-r l = record {
  count : length l.found ≡ length l.fn.found;
  done : (r : ℕ) → r < l.r → slice_index_or l.found r None ≡ told_more (slice_index_or l.lacks r None) (slice_index_or l.fn.found r None) (if slice_index_or l.held r false then None else Some l.thing);
  same : (r : ℕ) → l.r ≤ r → slice_index_or l.found r None ≡ slice_index_or l.fn.found r None;
}
