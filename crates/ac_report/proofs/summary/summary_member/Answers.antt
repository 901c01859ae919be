use Rattle.std.proofs.Common.{[], ◌∷◌, sym, ap, ◌∙◌, append_assoc}
use Rattle.serde_json.specs.Data.{string}
use Rattle.serde_json.specs.Written.{compact_text}
use Rattle.serde_json.proofs.FreeTexts.{text_of_value}
use Rattle.ac_cloud.specs.Cloud.CloudWorld.{providers_of}
use Rattle.ac_report.specs.Parts.{named_summary}
use Rattle.ac_report.specs.Texts.{shown_providers, summary_piece, summary_text}
use Rattle.ac_report.specs.Trees.{provider_text, summary}
use Rattle.ac_report.proofs.Trees.PlainTrees.{summary_plain}
use Rattle.ac_report.proofs.summary.summary_member.Goals as goal

pub returns-in-Ok : goal.returns-in-Ok
unfolding named_summary summary_piece summary_text
returns-in-Ok c =
    let all = shown_providers c.args.traits (providers_of c.args.cloud.now) in
    let sent = c.in-Ok.ensures.events in
    let name = compact_text (string (provider_text all c.args.ix)) in
    text_of_value (named_summary all c.args.ix) sent.0 _ sent.1 sent.2 (rw (summary_plain c.args.cloud.now c.args.traits c.args.ix c.requires))
    ∙ ap (λ l. 123 ∷ l) (sym (append_assoc name (58 ∷ compact_text (summary all c.args.ix)) (125 ∷ [])))
