use Rattle.ac_query.proofs.Pairs.Asking.{asks_once}
use Rattle.ac_query.proofs.laws.asks_once.Goals as goal

pub returns : goal.returns
returns c = asks_once
