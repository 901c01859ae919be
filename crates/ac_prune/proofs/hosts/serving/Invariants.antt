use Rattle.std.proofs.Common.{◌≡◌, ◌<◌, ℕ, length, slice_index}
use Rattle.ac_prune.proofs.hosts.serving.Given as goal

abbrev pub invariant-loop-ix : goal.invariant-loop-ix
invariant-loop-ix l = record {
  count : length l.rooms.items ≡ l.count;
  rooms : (j : ℕ) → j < l.ix-index → 0 < slice_index l.rooms.items (slice_index l.choices j);
}
