use Rattle.std.proofs.Common.{arith}
use Rattle.std.proofs.lemmas.Grind.{common_steps}
use Rattle.std.proofs.lemmas.Result.{on_ok_weaker}
use Rattle.ac_report.specs.Requests.{request_tree}
use Rattle.ac_report.proofs.request.serialize.RequestSerialize.serialize.Goals as goal

pub returns : goal.returns
unfolding request_tree
returns g c = grind (arith, common_steps, on_ok_weaker)
