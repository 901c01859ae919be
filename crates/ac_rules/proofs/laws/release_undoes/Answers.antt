use Rattle.ac_rules.proofs.EachSlot.ClaimLaws.{release_undoes}
use Rattle.ac_rules.proofs.laws.release_undoes.Goals as goal

pub returns : goal.returns
returns c = release_undoes
