use Rattle.std.proofs.Common.{map, take}
use Rattle.ac_report.specs.Called.{AreCalled}
use Rattle.ac_tables.specs.Called.{called_shown}
use Rattle.ac_run.proofs.wanted.named.texts.names_of.Given as goal

abbrev pub invariant-loop-one : goal.invariant-loop-one
invariant-loop-one l = AreCalled (take l.one-index (map called_shown l.called)) l.names
