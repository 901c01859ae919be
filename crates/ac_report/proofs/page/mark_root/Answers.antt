use Rattle.ac_cloud.specs.Cloud.CloudWorld.{providers_of}
use Rattle.ac_cloud.proofs.InOrder.{cloud_in_order}
use Rattle.ac_find.proofs.Service.MarkLemmas.{mark_step}
use Rattle.ac_report.proofs.page.mark_root.Goals as goal

pub returns-clause-marked : goal.returns-clause-marked
returns-clause-marked c =
    λ r low. mark_step (providers_of c.args.cloud.now) (cloud_in_order c.args.cloud.now).order c.args.marks.now c.root.result c.args.ix r c.requires.long c.root.ensures.inside c.root.ensures.id low
