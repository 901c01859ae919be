use Rattle.ac_search.proofs.Steps.PathLemmas.{front_fits, next_within, path_opens}
use Rattle.ac_search.proofs.walk.Walk.stays_open.Goals as goal

pub admits-requires-clause-provider : goal.admits-requires-clause-provider
admits-requires-clause-provider c = next_within c.args.self.now c.args.provider c.requires

pub admits-requires-clause-own : goal.admits-requires-clause-own
admits-requires-clause-own c = rw (c.deref.ensures.value, c.requires.is) (front_fits c.args.self.now c.requires.among)

pub admits-requires-clause-open : goal.admits-requires-clause-open
admits-requires-clause-open c = rw c.deref.ensures.value (path_opens c.args.self.now c.requires.among)

pub returns : goal.returns
returns c = rw (c.deref.ensures.value, c.requires.is) at c.admits.ensures
