use Rattle.std.proofs.Common.{◌∙◌, sym}
use Rattle.ac_search.specs.Shown.Walk.{cloud_in, query_in, roots_in, search_in, front_in}
use Rattle.ac_prune.proofs.Search.SoughtLemmas.{closed_dead}
use Rattle.ac_search.proofs.Search.StandLemmas.{away_dead}
use Rattle.ac_search.proofs.Steps.StepLemmas.{laws_in}
use Rattle.ac_search.proofs.walk.Walk.leads_on.Goals as goal

pub returns-then-stays_open-clause-dead : goal.returns-then-stays_open-clause-dead
returns-then-stays_open-clause-dead c away =
    let w = c.args.self.now in
    away_dead (cloud_in w) (query_in w) (roots_in w) (front_in w) (sym c.stands.ensures ∙ away)

pub returns-else-stays_open-clause-dead : goal.returns-else-stays_open-clause-dead
returns-else-stays_open-clause-dead c _ =
    let w = c.args.self.now in
    closed_dead (search_in w) (laws_in w) (front_in w) (sym c.stays_open.ensures ∙ c.if-stays_open.false)
