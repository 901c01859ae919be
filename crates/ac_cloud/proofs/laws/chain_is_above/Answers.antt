use Rattle.ac_cloud.proofs.Trees.LawFacts.{chain_is_above}
use Rattle.ac_cloud.proofs.laws.chain_is_above.Goals as goal

pub returns : goal.returns
returns c = chain_is_above
