use Rattle.std.proofs.Common.{arith}
use Rattle.ac_search.specs.Shown.Walk.{path_in, left_of}
use Rattle.ac_search.proofs.Steps.BackLemmas.{over_none, over_then, over_behind}
use Rattle.ac_search.proofs.Steps.StepLemmas.{may_same}
use Rattle.ac_search.proofs.walk.Walk.leave_front.Goals as goal

pub back-init : goal.back-init
back-init c = record { passes = over_none c.args.front.now (left_of c.args.self.now); stops = λ may. may }

pub take_back-requires : goal.take_back-requires
take_back-requires c = (c.is_behind.ensures c.back-test.true).0

pub back-preserved : goal.back-preserved
back-preserved c =
    let front = c.args.front.now in
    let w = c.back.self in
    let v = c.take_back.new.self in
    record {
      passes = over_then front (left_of c.args.self.now) (left_of w) (left_of v) c.back.invariant.passes
          (over_behind front (path_in w) (left_of w) (left_of v) (c.is_behind.ensures c.back-test.true).1 c.take_back.ensures.passes);
      stops = λ may. c.back.invariant.stops (may_same w v c.take_back.ensures.same may);
    }

pub back-smaller : goal.back-smaller
back-smaller c = omega (arith, c.take_back.ensures.depth)
