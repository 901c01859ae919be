use Rattle.ac_cloud.proofs.Trees.LawFacts.{top_is_root}
use Rattle.ac_cloud.proofs.laws.top_is_root.Goals as goal

pub returns : goal.returns
returns c = top_is_root
