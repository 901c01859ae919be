use Rattle.std.proofs.Common.{◌∙◌, sym}
use Rattle.ac_cloud.proofs.InOrder.{entries_rise}
use Rattle.ac_cloud.specs.Cloud.CloudWorld.{providers_of}
use Rattle.ac_query.specs.Shown.Queries.{asked_of}
use Rattle.ac_rules.specs.Placed.{assigned}
use Rattle.ac_rules.proofs.EachSlot.ClaimLemmas.{candidate_sums, claim_is}
use Rattle.ac_rules.proofs.claims.claim.Goals as goal

pub returns-in-Candidate-clause-claimed : goal.returns-in-Candidate-clause-claimed
returns-in-Candidate-clause-claimed c e =
    let all = providers_of c.args.cloud.now in
    let asked = asked_of c.args.query.now in
    c.apply_all.ensures.providers
    ∙ claim_is all (assigned asked c.args.list.now) (entries_rise c.args.cloud.now) (candidate_sums all asked c.args.list.now (sym c.verify-verdict.ensures ∙ e))
