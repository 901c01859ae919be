use Rattle.ac_change.proofs.Fewer.{other_trees_stay}
use Rattle.ac_change.proofs.laws.other_trees_stay.Goals as goal

pub returns : goal.returns
returns c = other_trees_stay
