use Rattle.std.proofs.Common.{◌∙◌, ap, ap₂, codes}
use Rattle.serde_json.specs.Data.{object, no_members, member}
use Rattle.serde_json.specs.Written.{compact_text}
use Rattle.serde_json.proofs.FreeTexts.{text_of_value}
use Rattle.ac_report.specs.declared.request.parts.Request.{Request}
use Rattle.ac_report.specs.Requests.{request_tree}
use Rattle.ac_report.specs.Texts.{request_text}
use Rattle.ac_report.specs.Trees.{request}
use Rattle.ac_report.proofs.Trees.PlainTrees.{request_plain}
use Rattle.ac_report.proofs.request.request_text.Goals as goal

pub returns-in-Ok : goal.returns-in-Ok
unfolding request_text request_tree request
returns-in-Ok c =
    let sent = c.in-Ok.ensures.events in
    let r : Request = record { allocations = c.in_ok-allocations.allocations; mappings = c.in_ok-mappings.mappings } in
    text_of_value (request_tree r) sent.0 _ sent.1 sent.2 (request_plain r)
    ∙ ap compact_text (ap₂ (λ a m. object (member (codes "allocations") a (member (codes "mappings") m no_members))) c.in_ok-allocations.ensures c.in_ok-mappings.ensures)
