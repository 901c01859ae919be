use Rattle.std.proofs.lemmas.Grind.{common_steps}
use Rattle.std.proofs.Common.{◌∙◌, ◌+◌, ◌<◌, ℕ, List, ap, ap₂, arith, drop, length, map, refl, subst, sym}
use Rattle.std.proofs.lemmas.List.{drop_all, drop_more}
use Rattle.std.specs.Borrow.{Bor}
use Rattle.std.specs.List.{All}
use Rattle.serde_json.specs.Data.{put}
use Rattle.ac_base.proofs.ShownKeys.{insert_shown}
use Rattle.ac_base.specs.Texts.{text_cmp}
use Rattle.ac_query.specs.Asked.{slots_of}
use Rattle.ac_query.specs.Laws.InOrder.{group_name}
use Rattle.ac_query.specs.Shown.Groups.{group_entry}
use Rattle.ac_query.specs.Shown.Queries.{asked_of}
use Rattle.ac_rules.specs.Placed.{assigned}
use Rattle.ac_cloud.specs.Cloud.CloudWorld.{providers_of}
use Rattle.ac_report.specs.declared.request.parts.Hosts.{Hosts}
use Rattle.ac_report.specs.Parts.{gathered_onto, listed}
use Rattle.ac_report.specs.Requests.{hosts_tree, mapping_member, mappings_tree}
use Rattle.ac_report.specs.Trees.{hosts, mapping, mappings, mappings_from, provider_text, texts}
use Rattle.ac_report.proofs.SlotLemmas.{all_hosts, all_rising}
use Rattle.ac_report.proofs.Trees.Listed.{listed_put}
use Rattle.ac_report.proofs.request.mappings_of.Goals as goal

pub invariant_of-insert : goal.invariant_of-insert
invariant_of-insert c =
    let asked = asked_of c.args.query.now in
    let Below : ℕ → Type 0 = λ ix. ix < length (providers_of c.args.cloud.now) in
    let AllBelow : List ℕ → Type 0 = λ l. All Below l in
    record { inside = subst AllBelow (sym c.in_ok-places.ensures) (all_rising Below (hosts (assigned asked c.args.list.now) c.loop-place.place) (all_hosts Below (slots_of asked) c.args.list.now c.loop-place.place c.requires.below)) }

pub loop-place-preserved : goal.loop-place-preserved
unfolding hosts_tree mapping
loop-place-preserved c =
    let all = providers_of c.args.cloud.now in
    let xs = assigned (asked_of c.args.query.now) c.args.list.now in
    let place = c.loop-place.place in
    let items = c.groups-group-items.result.now in
    let before = c.loop-place.members.entries in
    let shown : Bor (List ℕ) → List ℕ = λ k. k.now in
    ap (λ ms. gathered_onto ms (mappings_from all xs (place + 1) (map group_entry (drop (place + 1) items))))
    (ap (λ (es : List (Bor (List ℕ) × Hosts)). listed (map mapping_member es)) c.in_ok-insert.ensures.entries
    ∙ ap listed (insert_shown shown hosts_tree _ text_cmp (λ a b. refl) before c.suffix_text.result _)
    ∙ sym (listed_put (map mapping_member before) c.suffix_text.result.now _)
    ∙ ap₂ (λ k (ps : List ℕ). put k (texts (map (provider_text all) ps)) (listed (map mapping_member before)))
    (c.suffix_text.ensures ∙ ap (λ g. group_name (group_entry g)) c.group-item.is) c.in_ok-places.ensures)
    ∙ sym (ap (λ gs. gathered_onto (listed (map mapping_member before)) (mappings_from all xs place (map group_entry gs))) (drop_more items place c.group-item.result (omega arith)))
    ∙ c.loop-place.invariant

pub returns : goal.returns
unfolding mappings_tree mappings
returns c = grind (arith, common_steps, drop_all)
