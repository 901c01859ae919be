use Rattle.ac_search.specs.Shown.Hosts.{Stays}
use Rattle.ac_search.proofs.walk.Walk.leave_path.Given as goal

abbrev pub invariant-back : goal.invariant-back
invariant-back l = Stays l.fn.self l.self

abbrev pub decreases-back : goal.decreases-back
decreases-back l = l.self.depth
