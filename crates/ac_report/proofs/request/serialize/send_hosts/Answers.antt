use Rattle.std.proofs.Common.{◌≡◌, ◌∙◌, ℕ, List, arith, length, map, rules, subst, sym}
use Rattle.std.proofs.lemmas.List.{drop_all, drop_more, length-map}
use Rattle.std.proofs.lemmas.Result.{on_ok_weaker}
use Rattle.serde.specs.Event.{Logs, text}
use Rattle.serde_json.specs.Data.{string}
use Rattle.serde_json.specs.Events.{SendsItems}
use Rattle.serde_json.specs.View.{items_of}
use Rattle.ac_base.specs.Texts.{id_text}
use Rattle.ac_cloud.specs.Cloud.CloudWorld.{providers_of}
use Rattle.ac_report.specs.Requests.{hosts_tree}
use Rattle.ac_report.specs.Trees.{provider_text, texts}
use Rattle.ac_report.proofs.Trees.Sending.{begin_items}
use Rattle.ac_report.proofs.request.serialize.send_hosts.Goals as goal

pub loop-ix-init : goal.loop-ix-init
unfolding hosts_tree texts
loop-ix-init g c =
    let places = c.args.hosts.now.places.items in
    let named = provider_text (providers_of c.args.hosts.now.cloud.now) in
    let count : c.len.result ≡ length places = search rules in
    rw c.deref-ix-items.ensures.value
    (begin_items (map string (map named places)) _ _ _ (count ∙ sym (length-map (map named places) string ∙ length-map places named)) c.in_ok-begin_seq.ensures)

pub loop-ix-preserved : goal.loop-ix-preserved
loop-ix-preserved g c = λ end rest.
    let w = g.S.Serializer.written in
    let named = provider_text (providers_of c.args.hosts.now.cloud.now) in
    let sent = subst (λ (id : ℕ). Logs (w c.loop-ix.out) (w c.send_id.new.out) (text (id_text id))) c.id.ensures c.in_ok-send_id.ensures in
    c.loop-ix.invariant end
    (subst (λ (ys : List ℕ). SendsItems (items_of (map string (map named ys))) (w c.loop-ix.out) end) (sym (drop_more c.deref-ix-items.result.now c.loop-ix.ix-index 0 (omega arith))) (w c.send_id.new.out, sent, rest))

pub returns : goal.returns
returns g c =
    let w = g.S.Serializer.written in
    let named = provider_text (providers_of c.args.hosts.now.cloud.now) in
    let end = w c.end_seq.new.self in
    on_ok_weaker c.end_seq.result (λ ends. c.loop-ix.invariant end
    (subst (λ (ys : List ℕ). SendsItems (items_of (map string (map named ys))) (w c.loop-ix.out) end) (sym (drop_all c.loop-ix.ix-index c.deref-ix-items.result.now c.loop-ix-test.false)) ends)) c.end_seq.ensures
