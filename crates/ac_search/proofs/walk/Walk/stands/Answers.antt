use Rattle.ac_search.proofs.Steps.PathLemmas.{next_within}
use Rattle.ac_search.proofs.walk.Walk.stands.Goals as goal

pub stands_at-requires-clause-provider : goal.stands_at-requires-clause-provider
stands_at-requires-clause-provider c = next_within c.args.self.now c.args.provider c.requires
