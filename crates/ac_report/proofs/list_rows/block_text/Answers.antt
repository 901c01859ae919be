use Rattle.std.proofs.Common.{◌≡◌, ◌∙◌, ◌<◌, ℕ, List, IfOk, true, false, not, nat_cmp, ap, arith, length, map, slice_index, subst, sym, take}
use Rattle.std.proofs.lemmas.List.{take_all}
use Rattle.std.specs.List.{All, filter, flat_map}
use Rattle.csv.specs.Writing.{default_writer, row_text}
use Rattle.ac_base.specs.Sorted.{rising}
use Rattle.ac_cloud.specs.Cloud.CloudWorld.{providers_of}
use Rattle.ac_query.specs.Shown.Queries.{asked_of}
use Rattle.ac_rules.specs.Placed.{assigned}
use Rattle.ac_report.specs.ListRows.{block_text, provider_row}
use Rattle.ac_base.specs.Writing.Rows.{HasRows}
use Rattle.ac_report.specs.Texts.{shown_providers}
use Rattle.ac_report.specs.Trees.{gives}
use Rattle.ac_report.proofs.Pages.Listing.{row_more, row_same}
use Rattle.ac_report.proofs.SlotLemmas.{all_rising}
use Rattle.ac_report.proofs.Trees.Requests.{empty_by, gives_by, some_by}
use Rattle.ac_report.proofs.list_rows.block_text.Goals as goal

pub write_provider-requires-clause-provider : goal.write_provider-requires-clause-provider
write_provider-requires-clause-provider c =
    let Below : ℕ → Type 0 = λ ix. ix < length (providers_of c.args.listed.now.cloud.now) in
    let AllBelow : List ℕ → Type 0 = λ l. All Below l in
    let below = subst AllBelow (sym (c.deref-provider-items.ensures.value ∙ c.in_ok-all_hosts.ensures)) (all_rising Below c.args.listed.now.list.now c.args.listed.now.assigned.below) in
    below c.loop-provider.provider-index 0 c.loop-provider-test.true

pub loop-provider-preserved-then-is_empty : goal.loop-provider-preserved-then-is_empty
loop-provider-preserved-then-is_empty c =
    let xs = assigned (asked_of c.args.listed.now.query.now) c.args.listed.now.list.now in
    let row = provider_row (shown_providers c.args.listed.now.traits (providers_of c.args.listed.now.cloud.now)) xs c.args.listed.now.number in
    let items = c.deref-provider-items.result.now in
    let i = c.loop-provider.provider-index in
    let none : gives xs (slice_index items i) ≡ false = gives_by xs _ _ c.in_ok-classes.ensures ∙ ap not (empty_by _ (c.is_empty.ensures.0 c.if-is_empty.true)) in
    subst (HasRows c.loop-provider.rows) (sym (row_same row (λ ix. gives xs ix) items i (omega arith) none)) c.loop-provider.invariant

pub loop-provider-preserved : goal.loop-provider-preserved
loop-provider-preserved c =
    let xs = assigned (asked_of c.args.listed.now.query.now) c.args.listed.now.list.now in
    let row = provider_row (shown_providers c.args.listed.now.traits (providers_of c.args.listed.now.cloud.now)) xs c.args.listed.now.number in
    let items = c.deref-provider-items.result.now in
    let i = c.loop-provider.provider-index in
    let some : gives xs (slice_index items i) ≡ true = gives_by xs _ _ c.in_ok-classes.ensures ∙ ap not (some_by _ (λ e. let is = c.is_empty.ensures.1 e in absurd cc)) in
    subst (HasRows c.write_provider.new.rows) (sym (row_more row (λ ix. gives xs ix) items i (omega arith) some)) (c.in_ok-write_provider.ensures _ c.loop-provider.invariant)

pub returns : goal.returns
unfolding block_text
returns c =
    let xs = assigned (asked_of c.args.listed.now.query.now) c.args.listed.now.list.now in
    let row = provider_row (shown_providers c.args.listed.now.traits (providers_of c.args.listed.now.cloud.now)) xs c.args.listed.now.number in
    let items = c.deref-provider-items.result.now in
    let whole : take c.loop-provider.provider-index items ≡ rising nat_cmp c.args.listed.now.list.now =
    take_all c.loop-provider.provider-index items (omega arith) ∙ (c.deref-provider-items.ensures.value ∙ c.in_ok-all_hosts.ensures) in
    subst (λ (hosts : List ℕ). IfOk c.end_rows.result (λ text. text.items ≡ flat_map (row_text default_writer) (map row (filter (λ ix. gives xs ix) hosts)))) whole
    (c.end_rows.ensures _ c.loop-provider.invariant)
