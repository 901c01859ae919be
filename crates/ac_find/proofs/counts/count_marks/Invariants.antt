use Rattle.std.proofs.Common.{◌≡◌, take}
use Rattle.ac_find.specs.Shown.Explained.{marked}
use Rattle.ac_find.proofs.counts.count_marks.Given as goal

abbrev pub invariant-loop-mark : goal.invariant-loop-mark
invariant-loop-mark l = l.count ≡ marked (take l.mark-index l.marks)
