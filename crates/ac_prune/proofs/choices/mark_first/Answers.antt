use Rattle.ac_query.specs.Shown.Queries.{asked_of}
use Rattle.ac_cloud.specs.Cloud.CloudWorld.{providers_of}
use Rattle.ac_prune.proofs.Search.GroupLemmas.{are_met}
use Rattle.ac_prune.proofs.choices.mark_first.Goals as goal

pub returns : goal.returns
returns c = are_met (providers_of c.args.cloud.now) (asked_of c.args.query.now) 0 c.in_ok-mark_group.field-0.items c.in_ok-mark_group.ensures
