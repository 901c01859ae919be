use Rattle.std.proofs.Common.{◌∙◌, sym}
use Rattle.ac_run.specs.Compared.{there_line}
use Rattle.ac_run.proofs.outputs.compared.told.write_other.Goals as goal

pub returns : goal.returns
returns g c = c.push_piece.ensures (λ t. t) (there_line c.args.text.now) (sym (c.deref.ensures.value ∙ c.in_ok-line.ensures))
