use Rattle.ac_find.proofs.NoneLemmas.{none_without_roots}
use Rattle.ac_find.proofs.laws.none_without_roots.Goals as goal

pub returns : goal.returns
returns c = none_without_roots
