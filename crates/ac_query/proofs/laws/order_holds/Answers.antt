use Rattle.ac_query.proofs.Pairs.Asking.{order_holds}
use Rattle.ac_query.proofs.laws.order_holds.Goals as goal

pub returns : goal.returns
returns c = order_holds
