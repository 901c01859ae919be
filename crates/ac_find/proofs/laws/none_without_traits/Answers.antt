use Rattle.ac_find.proofs.NoneLemmas.{none_without_traits}
use Rattle.ac_find.proofs.laws.none_without_traits.Goals as goal

pub returns : goal.returns
returns c = none_without_traits
