use Rattle.ac_cloud.proofs.Amounts.{amounts_alone}
use Rattle.ac_cloud.proofs.laws.amounts_alone.Goals as goal

pub returns : goal.returns
returns c = amounts_alone
