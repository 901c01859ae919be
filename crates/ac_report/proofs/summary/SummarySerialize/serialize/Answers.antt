use Rattle.std.proofs.Common.{arith}
use Rattle.std.proofs.lemmas.Grind.{common_steps}
use Rattle.std.proofs.Common.{List, ℕ, Option, subst, ◌∙◌}
use Rattle.std.proofs.lemmas.Result.{on_ok_weaker}
use Rattle.serde.specs.Event.{Logs, text}
use Rattle.serde_json.specs.Events.{SendsValue}
use Rattle.ac_base.specs.Texts.{id_text}
use Rattle.ac_cloud.specs.World.{UsedInventory}
use Rattle.ac_cloud.specs.Cloud.CloudWorld.{providers_of}
use Rattle.ac_report.specs.Trees.{holdings, id_or_null, texts}
use Rattle.ac_cloud.proofs.InOrder.{entries_rise}
use Rattle.ac_report.proofs.Pages.Showing.{summary_shown}
use Rattle.ac_report.proofs.summary.SummarySerialize.serialize.Goals as goal

pub send_holdings-requires : goal.send_holdings-requires
send_holdings-requires g c = grind (arith, common_steps, entries_rise)

pub returns : goal.returns
returns g c =
    let w = g.S.Serializer.written in
    let parent = subst (λ (id : Option ℕ). SendsValue (id_or_null id) (w c.key.new.self) (w c.send_parent.new.out)) c.parent_id.ensures c.in_ok-send_parent.ensures in
    let entries = subst (λ (es : List (List ℕ × UsedInventory)). SendsValue (holdings es) (w c.key-2.new.self) (w c.send_holdings.new.out)) c.entries.ensures c.in_ok-send_holdings.ensures in
    let root = subst (λ (id : ℕ). Logs (w c.key-3.new.self) (w c.send_id.new.out) (text (id_text id))) (c.id.ensures ∙ c.root.ensures.id) c.in_ok-send_id.ensures in
    let traits = subst (λ (ts : List (List ℕ)). SendsValue (texts ts) (w c.key-4.new.self) (w c.send_traits.new.out)) c.shown_traits.ensures c.in_ok-send_traits.ensures in
    rw (summary_shown (providers_of c.args.self.now.cloud.now) c.args.self.now.traits c.args.self.now.ix)
    (on_ok_weaker c.end_map.result (λ e.
    (_, c.in_ok-begin_map.ensures, (_, _, c.in_ok-key.ensures, parent, (_, _, c.in_ok-key-2.ensures, entries, (_, _, c.in_ok-key-3.ensures, root, (_, _, c.in_ok-key-4.ensures, traits, e))))))
    c.end_map.ensures)
