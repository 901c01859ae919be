use Rattle.std.proofs.Common.{string_bytes}
use Rattle.serde_json.specs.View.{view}
use Rattle.ac_run.proofs.Comparing.Floats.{text_of_request}
use Rattle.ac_run.proofs.outputs.compared.ordered.ordered_text.Goals as goal

pub returns-in_ok-text-in-Some : goal.returns-in_ok-text-in-Some
returns-in_ok-text-in-Some c =
    text_of_request (view c.args.value.now) (view c.in-Some.request) (string_bytes c.in_ok-text-in-Some.text) (rw c.in-Some.is at c.in_ok-request.ensures)
    c.in_ok-text-in-Some.ensures.text
