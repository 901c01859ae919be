use Rattle.std.specs.List.{Contains}
use Rattle.ac_search.proofs.walk.leave.narrowest.Given as goal

abbrev pub invariant-loop-ix : goal.invariant-loop-ix
invariant-loop-ix l = Contains l.list l.narrowest
