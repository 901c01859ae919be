use Rattle.std.proofs.Common.{◌∙◌, ℕ, subst, sym}
use Rattle.std.proofs.lemmas.Result.{on_ok_weaker}
use Rattle.serde.specs.declared.name.Case.TheVariants.{AsIs}
use Rattle.serde.specs.Event.{Logs, field_key}
use Rattle.ac_base.specs.Texts.{id_text}
use Rattle.ac_report.specs.Parts.{named_summary}
use Rattle.ac_cloud.specs.Cloud.CloudWorld.{providers_of}
use Rattle.ac_report.proofs.Pages.Showing.{ids}
use Rattle.ac_report.proofs.summary.NamedSummarySerialize.serialize.Goals as goal

pub returns : goal.returns
unfolding named_summary
returns g c =
    let w = g.S.Serializer.written in
    let name = subst (λ (id : ℕ). Logs (w c.begin_map.new.self) (w c.send_name.new.out) (field_key (id_text id) AsIs)) (c.id.ensures ∙ sym (ids (providers_of c.args.self.now.summary.cloud.now) c.args.self.now.summary.traits c.args.self.now.summary.ix)) c.in_ok-send_name.ensures in
    on_ok_weaker c.end_map.result (λ e. (_, c.in_ok-begin_map.ensures, (_, _, name, c.in_ok-serialize.ensures, e))) c.end_map.ensures
