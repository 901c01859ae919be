use Rattle.std.proofs.Common.{refl}
use Rattle.ac_query.specs.Pairs.Values.{ids_value, names_value, needs_value, subtree_value, traits_value}
use Rattle.ac_query.proofs.laws.lists_mean.Goals as goal

pub returns : goal.returns
unfolding ids_value names_value needs_value subtree_value traits_value
returns c = record { names = λ text. refl; suffixes = λ text. refl; ids = λ text. refl; traits = λ text. refl; needs = λ text. refl }
