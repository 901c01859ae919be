use Rattle.std.proofs.Common.{◌≡◌, ◌<◌, ◌≤◌, ℕ, Some, None, length, slice_index_or, if◌then◌else◌}
use Rattle.ac_find.specs.Shown.Furthest.{is_of_slot}
use Rattle.ac_find.proofs.furthest.note_wanting.Given as goal

abbrev pub invariant-loop-r : goal.invariant-loop-r
invariant-loop-r l = record {
  count : length l.found ≡ length l.fn.found;
  done : (r : ℕ) → r < l.r → slice_index_or l.found r None ≡ (if is_of_slot l.number (slice_index_or l.lacks r None) then Some (record { provider = slice_index_or l.places r None; class = slice_index_or l.classes r None }) else slice_index_or l.fn.found r None);
  same : (r : ℕ) → l.r ≤ r → slice_index_or l.found r None ≡ slice_index_or l.fn.found r None;
}
