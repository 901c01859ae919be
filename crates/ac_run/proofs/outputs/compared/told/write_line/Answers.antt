use Rattle.std.proofs.Common.{◌∙◌, sym}
use Rattle.ac_cloud.specs.Cloud.CloudWorld.{providers_of}
use Rattle.ac_run.specs.Compared.{here_line}
use Rattle.ac_run.proofs.outputs.compared.told.write_line.Goals as goal

pub returns : goal.returns
returns g c =
    c.push_piece.ensures (λ t. t) (here_line (providers_of c.args.cloud.now) c.args.list.now) (sym (c.deref.ensures.value ∙ c.in_ok-text.ensures))
