use Rattle.std.proofs.Common.{◌≡◌, ◌<◌, ℕ, true, length, slice_index, slice_index_or}
use Rattle.ac_prune.proofs.families.parts.mark_parts.Given as goal

abbrev pub invariant-loop-ix : goal.invariant-loop-ix
invariant-loop-ix l = record {
  count : length l.marks ≡ length l.fn.marks;
  marked : (j : ℕ) → j < l.ix-index → slice_index l.parts (slice_index l.list j) < length l.fn.marks → slice_index_or l.marks (slice_index l.parts (slice_index l.list j)) true ≡ true;
}
