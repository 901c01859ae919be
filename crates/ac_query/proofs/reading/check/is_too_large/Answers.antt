use Rattle.std.proofs.Common.{arith}
use Rattle.std.proofs.lemmas.Grind.{common_steps}
use Rattle.std.proofs.lemmas.List.{length-map}
use Rattle.ac_query.proofs.Checks.{too_many_slots_there, entries_decide}
use Rattle.ac_query.proofs.reading.check.is_too_large.Goals as goal

pub returns-then-classes-len-gt-SLOTS : goal.returns-then-classes-len-gt-SLOTS
returns-then-classes-len-gt-SLOTS c = grind (arith, common_steps, too_many_slots_there, length-map)

pub returns : goal.returns
returns c = grind (arith, common_steps, entries_decide, length-map)
