use Rattle.std.proofs.Common.{◌∙◌}
use Rattle.ac_cloud.specs.Cloud.CloudWorld.{providers_of}
use Rattle.ac_query.specs.Shown.Queries.{asked_of}
use Rattle.ac_rules.specs.Placed.{assigned}
use Rattle.ac_rules.proofs.EachSlot.ClaimLemmas.{release_is}
use Rattle.ac_rules.proofs.claims.release.Goals as goal

pub returns-then-in_use-clause-released : goal.returns-then-in_use-clause-released
returns-then-in_use-clause-released c e = c.apply_all.ensures.providers ∙ release_is (providers_of c.args.cloud.now) (assigned (asked_of c.args.query.now) c.args.list.now)
