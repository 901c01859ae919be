use Rattle.std.proofs.Common.{arith}
use Rattle.std.specs.Int.Count.{count_leading_zeros}
use Rattle.ac_find.proofs.Service.DoublesLemmas.{step_near, step_small}
use Rattle.ac_find.proofs.differences.doubles.step.Goals as goal

pub returns-clause-near : goal.returns-clause-near
returns-clause-near c =
    let near = step_near c.args.digits c.args.n c.requires c.ranges.n.fits in
    grind (arith, c.saturating_sub.ensures, near)

pub returns-clause-small : goal.returns-clause-small
returns-clause-small c =
    let small = step_small c.args.digits (count_leading_zeros 128 c.args.n) c.requires in
    grind (arith, c.saturating_sub.ensures, small)
