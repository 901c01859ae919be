use Rattle.std.proofs.Common.{◌∙◌, string_bytes}
use Rattle.ac_run.proofs.Comparing.Known.{shown_known}
use Rattle.ac_run.proofs.outputs.compared.told.was_met.Goals as goal

pub returns : goal.returns
returns c = c.contains.ensures ∙ shown_known string_bytes c.args.text.now c.args.met.now.keys
