use Rattle.std.proofs.Common.{arith}
use Rattle.ac_cloud.specs.Cloud.CloudWorld.{providers_of}
use Rattle.ac_cloud.proofs.InOrder.{cloud_in_order}
use Rattle.ac_find.proofs.Service.MarkLemmas.{mark_step}
use Rattle.ac_find.proofs.differences.summaries.mark_root.Goals as goal

pub returns-then-has_other-clause-marked : goal.returns-then-has_other-clause-marked
returns-then-has_other-clause-marked c =
    λ r low.
    let step = mark_step (providers_of c.args.cloud.now) (cloud_in_order c.args.cloud.now).order c.args.marks.now c.root.result c.args.ix r c.requires.long c.root.ensures.inside c.root.ensures.id low in
    let other = c.has_other.ensures in
    let on = c.if-has_other.true in
    grind (arith, step, other, on)
