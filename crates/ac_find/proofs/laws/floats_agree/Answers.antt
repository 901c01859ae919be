use Rattle.ac_find.proofs.Service.RulesLemmas.{floats_agree}
use Rattle.ac_find.proofs.laws.floats_agree.Goals as goal

pub returns : goal.returns
returns c = floats_agree
