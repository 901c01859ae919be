use Rattle.std.proofs.Common.{arith}
use Rattle.std.proofs.lemmas.Grind.{common_steps}
use Rattle.std.proofs.Common.{append-nil}
use Rattle.ac_query.proofs.Values.NameSets.{rising_shown}
use Rattle.ac_query.proofs.reading.traits.names_in_order.Goals as goal

pub returns-clause-rising : goal.returns-clause-rising
returns-clause-rising c = grind (arith, common_steps, append-nil, rising_shown)
