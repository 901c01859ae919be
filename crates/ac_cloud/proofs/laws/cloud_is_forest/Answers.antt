use Rattle.ac_cloud.proofs.Trees.LawFacts.{cloud_is_forest}
use Rattle.ac_cloud.proofs.laws.cloud_is_forest.Goals as goal

pub returns : goal.returns
returns c = cloud_is_forest
