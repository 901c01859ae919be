use Rattle.std.proofs.Common.{arith}
use Rattle.std.proofs.lemmas.Grind.{common_steps}
use Rattle.std.proofs.lemmas.List.{length-map}
use Rattle.ac_report.proofs.Trees.Sending.{begin_members, holdings_listed}
use Rattle.ac_report.proofs.summary.send_holdings.Goals as goal

pub loop-entry-init : goal.loop-entry-init
loop-entry-init g c = grind (arith, common_steps, holdings_listed, begin_members, length-map)
