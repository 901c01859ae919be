use Rattle.std.proofs.Common.{◌∙◌, List, ℕ}
use Rattle.std.specs.Borrow.{Bor}
use Rattle.ac_run.proofs.Comparing.Known.{shown_known}
use Rattle.ac_run.proofs.outputs.compared.told.has_text.Goals as goal

pub returns : goal.returns
returns c = c.contains.ensures ∙ shown_known (λ (t : Bor (List ℕ)). t.now) c.args.text.now c.args.set.now.keys
