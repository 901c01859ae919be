use Rattle.ac_find.proofs.ToldLemmas.{root_is_told}
use Rattle.ac_find.proofs.laws.root_is_told.Goals as goal

pub returns : goal.returns
returns c = root_is_told
