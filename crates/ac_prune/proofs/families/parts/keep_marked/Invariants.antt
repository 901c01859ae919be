use Rattle.std.proofs.Common.{◌≡◌, ◌<◌, ◌≤◌, ℕ, true, length, slice_index, slice_index_or}
use Rattle.ac_prune.proofs.families.parts.keep_marked.Given as goal

abbrev pub invariant-loop-i : goal.invariant-loop-i
invariant-loop-i l = record {
  count : length l.parts ≡ length l.fn.parts;
  kept : (p : ℕ) → p < length l.fn.parts → slice_index_or l.marks (slice_index l.fn.parts p) true ≡ true → slice_index l.parts p ≡ slice_index l.fn.parts p;
  ahead : (p : ℕ) → l.i ≤ p → slice_index l.parts p ≡ slice_index l.fn.parts p;
}
