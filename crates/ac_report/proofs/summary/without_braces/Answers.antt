use Rattle.std.proofs.lemmas.Grind.{common_steps}
use Rattle.std.proofs.Common.{arith, length-append}
use Rattle.std.proofs.lemmas.List.{take-append-le, take_all}
use Rattle.ac_report.proofs.summary.without_braces.Goals as goal

pub returns : goal.returns
returns c = grind (arith, common_steps, length-append, take-append-le, take_all)
