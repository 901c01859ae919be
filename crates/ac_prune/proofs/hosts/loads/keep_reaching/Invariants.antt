use Rattle.std.proofs.Common.{◌≡◌, ◌<◌, ◌≤◌, ℕ, false, length, slice_index, slice_index_or, nat_le, ◌&&◌}
use Rattle.ac_prune.proofs.hosts.loads.keep_reaching.Given as goal

abbrev pub invariant-loop-r : goal.invariant-loop-r
invariant-loop-r l = record {
  count : length l.may ≡ length l.fn.may;
  done : (r : ℕ) → r < l.r → slice_index_or l.may r false ≡ (slice_index_or l.fn.may r false && nat_le l.wanted (slice_index l.loads r));
  same : (r : ℕ) → l.r ≤ r → slice_index_or l.may r false ≡ slice_index_or l.fn.may r false;
}
