use Rattle.std.proofs.Common.{true}
use Rattle.serde_json.proofs.FreeTexts.{text_of_value}
use Rattle.ac_cloud.specs.Cloud.CloudWorld.{providers_of}
use Rattle.ac_report.specs.Texts.{summary_text}
use Rattle.ac_report.specs.Trees.{summary}
use Rattle.ac_report.proofs.Trees.PlainTrees.{summary_plain}
use Rattle.ac_report.proofs.summary.summary_text.Goals as goal

pub returns-in-Ok : goal.returns-in-Ok
unfolding summary_text
returns-in-Ok c =
    let sent = c.in-Ok.ensures.events in
    text_of_value (summary (providers_of c.args.cloud.now) c.args.ix) sent.0 _ sent.1 sent.2 (summary_plain c.args.cloud.now true c.args.ix c.requires)
