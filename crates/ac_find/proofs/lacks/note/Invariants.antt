use Rattle.std.proofs.Common.{◌≡◌, ◌<◌, ◌≤◌, ℕ, None, length, slice_index, slice_index_or}
use Rattle.std.specs.Option.{option_or}
use Rattle.ac_find.specs.Shown.Lacking.{lack_behind, tests_in}
use Rattle.ac_find.proofs.lacks.note.Given as goal

abbrev pub invariant-loop-r : goal.invariant-loop-r
invariant-loop-r l = record {
  count : length l.lacks ≡ length l.fn.lacks;
  done : (r : ℕ) → r < l.r → slice_index_or l.lacks r None ≡ option_or (slice_index_or l.fn.lacks r None) (lack_behind l.slot (tests_in (slice_index l.ranks r)));
  same : (r : ℕ) → l.r ≤ r → slice_index_or l.lacks r None ≡ slice_index_or l.fn.lacks r None;
}
