use Rattle.ac_rules.specs.Lists.{PassesOver}
use Rattle.ac_search.specs.Shown.Walk.{left_of, may_stop}
use Rattle.ac_search.proofs.walk.Walk.leave_front.Given as goal

abbrev pub invariant-back : goal.invariant-back
invariant-back l = record {
  passes : PassesOver l.front (left_of l.fn.self) (left_of l.self);
  stops : may_stop l.self → may_stop l.fn.self;
}

abbrev pub decreases-back : goal.decreases-back
decreases-back l = l.self.depth
