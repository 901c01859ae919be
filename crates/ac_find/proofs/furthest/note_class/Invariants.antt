use Rattle.std.proofs.Common.{◌≡◌, ◌<◌, ◌≤◌, ℕ, Some, None, false, length, slice_index_or, if◌then◌else◌}
use Rattle.std.specs.Option.{option_or}
use Rattle.ac_find.proofs.furthest.note_class.Given as goal

abbrev pub invariant-loop-r : goal.invariant-loop-r
invariant-loop-r l = record {
  count : length l.classes ≡ length l.fn.classes;
  done : (r : ℕ) → r < l.r → slice_index_or l.classes r None ≡ option_or (slice_index_or l.fn.classes r None) (if slice_index_or l.fn.had r false then None else Some l.class);
  same : (r : ℕ) → l.r ≤ r → slice_index_or l.classes r None ≡ slice_index_or l.fn.classes r None;
}
