use Rattle.std.proofs.Common.{◌≡◌, ◌-◌, ◌&&◌, false, length, slice_index_or}
use Rattle.std.specs.List.{list_any, range_with_len}
use Rattle.ac_find.specs.Shown.Apart.{have_common}
use Rattle.ac_find.proofs.counts.apart.have_common.Given as goal

abbrev pub invariant-loop-r : goal.invariant-loop-r
invariant-loop-r l =
    list_any (λ r. slice_index_or l.first r false && slice_index_or l.other r false) (range_with_len l.r (length l.first - l.r)) ≡ have_common l.first l.other
