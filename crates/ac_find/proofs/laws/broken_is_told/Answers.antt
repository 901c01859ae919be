use Rattle.ac_find.proofs.ToldLemmas.{broken_is_told}
use Rattle.ac_find.proofs.laws.broken_is_told.Goals as goal

pub returns : goal.returns
returns c = broken_is_told
