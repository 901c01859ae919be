use Rattle.std.proofs.lemmas.Grind.{common_steps}
use Rattle.std.proofs.Common.{arith}
use Rattle.ac_remedies.proofs.SlotsTold.{slots_told}
use Rattle.ac_remedies.proofs.queries.tokens.slots_text.Goals as goal

pub returns : goal.returns
returns c = grind (arith, common_steps, slots_told)
