use Rattle.ac_find.proofs.ToldLemmas.{misfit_is_told}
use Rattle.ac_find.proofs.laws.misfit_is_told.Goals as goal

pub returns : goal.returns
returns c = misfit_is_told
