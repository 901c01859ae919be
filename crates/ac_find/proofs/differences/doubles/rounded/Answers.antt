use Rattle.std.proofs.Common.{arith}
use Rattle.ac_find.proofs.Service.DoublesLemmas.{multiple_near}
use Rattle.ac_find.proofs.differences.doubles.rounded.Goals as goal

pub overflow_mul-result : goal.overflow_mul-result
overflow_mul-result c =
    let near = multiple_near c.nearest.result c.args.a c.args.b c.step-step.result c.nearest.ensures.near in
    grind (arith, near, c.step-step.ensures.small, c.requires.a)

pub returns-clause-near : goal.returns-clause-near
returns-clause-near c =
    let near = multiple_near c.nearest.result c.args.a c.args.b c.step-step.result c.nearest.ensures.near in
    omega (arith, near, c.step-step.ensures.near)
