use Rattle.std.proofs.Common.{◌≡◌, ◌++◌, replicate}
use Rattle.ac_report.proofs.names.put_marks.Given as goal

abbrev pub invariant-loop-byte : goal.invariant-loop-byte
invariant-loop-byte l = l.shown.items ≡ l.fn.shown.items ++ replicate l._byte 63
