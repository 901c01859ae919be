use Rattle.ac_base.proofs.Decimals.{six_decimals}
use Rattle.ac_base.proofs.laws.six_decimals.Goals as goal

pub returns : goal.returns
returns c = six_decimals
