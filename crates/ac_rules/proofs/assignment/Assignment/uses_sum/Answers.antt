use Rattle.std.proofs.Common.{arith}
use Rattle.std.proofs.lemmas.Bool.Decides.{nat_tests}
use Rattle.ac_rules.proofs.assignment.Assignment.uses_sum.Goals as goal

pub returns-clause-counted : goal.returns-clause-counted
returns-clause-counted c = let fits = c.used-used.type_inv in let is = c.used-used.ensures in let said = c.suffices.ensures in grind (arith, nat_tests)
