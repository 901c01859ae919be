use Rattle.std.proofs.Common.{arith}
use Rattle.ac_find.proofs.differences.doubles.capacity_by.Goals as goal

pub rounded-requires-clause-a : goal.rounded-requires-clause-a
rounded-requires-clause-a c = grind (arith, c.from-free.ensures, c.saturating_sub.type_inv, c.held.ensures.bound)
