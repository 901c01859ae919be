use Rattle.ac_search.specs.Hosts.{AreUnmarked}
use Rattle.ac_search.proofs.walk.leave.next_marked.Given as goal

abbrev pub invariant-loop-at : goal.invariant-loop-at
invariant-loop-at l = AreUnmarked l.marks l.from l.at
