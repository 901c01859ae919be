use Rattle.std.proofs.Common.{arith}
use Rattle.std.proofs.Math.ListN.{drop_of_length-le}
use Rattle.ac_fill.proofs.found.Rarest.find_slot.Goals as goal

pub returns : goal.returns
returns c =
    let over = drop_of_length-le c.needs_at-need-items.result.now {i = c.loop-need.need-index} (omega (arith, c.loop-need-test.false)) in
    let needs = c.needs_at-need-items.ensures in
    record {
      count = c.loop-need.invariant.count;
      together = rw (over, needs) at c.loop-need.invariant.together;
      roots = λ r h. rw (over, needs) at (c.loop-need.invariant.roots r h);
    }
