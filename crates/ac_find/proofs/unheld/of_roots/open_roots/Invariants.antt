use Rattle.std.proofs.Common.{◌≡◌, ◌&&◌, None, map, slice_index_or}
use Rattle.std.specs.List.{range_with_len}
use Rattle.std.specs.Option.{is_none}
use Rattle.ac_find.specs.Shown.Unheld.{lacks_traits}
use Rattle.ac_find.proofs.unheld.of_roots.open_roots.Given as goal

abbrev pub invariant-loop-r : goal.invariant-loop-r
invariant-loop-r l = l.marks.items ≡ map (λ r. lacks_traits (slice_index_or l.lacks r None) && is_none (slice_index_or l.found r None)) (range_with_len 0 l.r)
