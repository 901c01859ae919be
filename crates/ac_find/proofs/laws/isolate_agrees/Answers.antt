use Rattle.ac_find.proofs.Service.RulesLemmas.{isolate_agrees}
use Rattle.ac_find.proofs.laws.isolate_agrees.Goals as goal

pub returns : goal.returns
returns c = isolate_agrees
