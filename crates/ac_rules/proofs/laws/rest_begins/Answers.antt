use Rattle.ac_rules.proofs.Lists.PageLemmas.{rest_begins}
use Rattle.ac_rules.proofs.laws.rest_begins.Goals as goal

pub returns : goal.returns
returns c = rest_begins
