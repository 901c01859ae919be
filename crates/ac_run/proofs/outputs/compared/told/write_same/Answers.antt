use Rattle.std.proofs.Common.{◌∙◌, sym}
use Rattle.ac_run.specs.Compared.{same_line}
use Rattle.ac_run.proofs.outputs.compared.told.write_same.Goals as goal

pub returns : goal.returns
returns g c = c.push_piece.ensures (λ t. t) (same_line c.args.count) (sym (c.as_bytes.ensures.value ∙ c.in_ok-text.ensures))
