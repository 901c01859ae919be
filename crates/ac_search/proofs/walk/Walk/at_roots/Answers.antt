use Rattle.ac_query.specs.Shown.Queries.{asked_of}
use Rattle.ac_cloud.specs.Cloud.CloudWorld.{providers_of}
use Rattle.ac_search.proofs.Search.StandLemmas.{rest_none}
use Rattle.ac_search.proofs.walk.Walk.at_roots.Goals as goal

pub returns-clause-left : goal.returns-clause-left
returns-clause-left c = rw (rest_none (providers_of c.args.cloud.now) (asked_of c.args.query.now)) at c.begin.ensures.left
