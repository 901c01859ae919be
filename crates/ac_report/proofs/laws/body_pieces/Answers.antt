use Rattle.std.proofs.Common.{◌∙◌, sym}
use Rattle.ac_report.proofs.Pages.Joining.{body_is, pieces_joined}
use Rattle.ac_report.proofs.laws.body_pieces.Goals as goal

pub returns : goal.returns
returns c = λ all asked lists are. body_is all are asked lists ∙ sym (pieces_joined all asked lists)
