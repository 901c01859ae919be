use Rattle.std.proofs.Common.{◌≡◌, ◌-◌, ◌^◌, false, slice_index_or}
use Rattle.std.specs.Prelude.{min}
use Rattle.std.specs.List.{filter, range_with_len, sum_by}
use Rattle.ac_fill.specs.Found.{times_in}
use Rattle.ac_fill.proofs.bound.sum_at.Given as goal

abbrev pub invariant-loop-r : goal.invariant-loop-r
invariant-loop-r l = min l.sum (2 ^ 128 - 1) ≡ min (sum_by (times_in l.roots) (filter (λ r. slice_index_or l.fits r false) (range_with_len 0 l.r))) (2 ^ 128 - 1)
