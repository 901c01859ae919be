use Rattle.std.proofs.Common.{◌≡◌, ◌∙◌, ◌+◌, ◌<◌, ◌++◌, ℕ, List, true, false, not, append-nil, ap, arith, drop, length, map, slice_index, subst, sym}
use Rattle.std.proofs.lemmas.List.{drop_all}
use Rattle.std.specs.List.{All, filter}
use Rattle.serde_json.specs.Data.{object}
use Rattle.ac_query.specs.Shown.Queries.{asked_of}
use Rattle.ac_rules.specs.Placed.{assigned}
use Rattle.ac_cloud.proofs.InOrder.{cloud_in_order}
use Rattle.ac_cloud.specs.Cloud.CloudWorld.{providers_of}
use Rattle.ac_report.specs.declared.request.parts.Allocation.{Allocation}
use Rattle.ac_report.specs.Parts.{listed}
use Rattle.ac_report.specs.Requests.{allocation_member, allocations_tree}
use Rattle.ac_report.specs.Trees.{allocations, gives}
use Rattle.ac_report.proofs.SlotLemmas.{all_rising}
use Rattle.ac_report.proofs.Trees.Requests.{allocation_is, allocations_listed, empty_by, gives_by, kept_less, kept_more, member_pushed, some_by, taken}
use Rattle.ac_report.proofs.request.allocations_of.Goals as goal

pub id-requires : goal.id-requires
id-requires c =
    let Below : ℕ → Type 0 = λ ix. ix < length (providers_of c.args.cloud.now) in
    let AllBelow : List ℕ → Type 0 = λ l. All Below l in
    let below = subst AllBelow (sym (c.deref-provider-items.ensures.value ∙ c.in_ok-all_hosts.ensures)) (all_rising Below c.args.list.now c.requires.below) in
    below c.loop-provider.provider-index 0 c.loop-provider-test.true

pub loop-provider-preserved-then-is_empty : goal.loop-provider-preserved-then-is_empty
loop-provider-preserved-then-is_empty c =
    let xs = assigned (asked_of c.args.query.now) c.args.list.now in
    let items = c.deref-provider-items.result.now in
    let i = c.loop-provider.provider-index in
    let none : gives xs (slice_index items i) ≡ false = gives_by xs _ _ c.in_ok-classes.ensures ∙ ap not (empty_by _ (c.is_empty.ensures.0 c.if-is_empty.true)) in
    ap (λ ps. map allocation_member c.loop-provider.allocations.items ++ map (taken (providers_of c.args.cloud.now) xs) ps) (sym (kept_less (λ ix. gives xs ix) items i (omega arith) none))
    ∙ c.loop-provider.invariant

pub loop-provider-preserved : goal.loop-provider-preserved
loop-provider-preserved c =
    let all = providers_of c.args.cloud.now in
    let xs = assigned (asked_of c.args.query.now) c.args.list.now in
    let items = c.deref-provider-items.result.now in
    let i = c.loop-provider.provider-index in
    let before = c.loop-provider.allocations.items in
    let rest = map (taken all xs) (filter (λ ix. gives xs ix) (drop (i + 1) items)) in
    let some : gives xs (slice_index items i) ≡ true =
    gives_by xs _ _ c.in_ok-classes.ensures ∙ ap not (some_by _ (λ e. let is = c.is_empty.ensures.1 e in absurd cc)) in
    ap (λ (l : List Allocation). map allocation_member l ++ rest) c.in_ok-push.ensures.items
    ∙ member_pushed before _ (taken all xs (slice_index items i)) rest (allocation_is all _ c.id.ensures c.in_ok-classes.ensures)
    ∙ ap (λ ps. map allocation_member before ++ map (taken all xs) ps) (sym (kept_more (λ ix. gives xs ix) items i (omega arith) some))
    ∙ c.loop-provider.invariant

pub returns : goal.returns
unfolding allocations_tree allocations
returns c =
    let all = providers_of c.args.cloud.now in
    let xs = assigned (asked_of c.args.query.now) c.args.list.now in
    let sent = map allocation_member c.loop-provider.allocations.items in
    let none = drop_all c.loop-provider.provider-index c.deref-provider-items.result.now (omega arith) in
    ap object
    (ap listed (sym (append-nil sent) ∙ ap (λ ps. sent ++ map (taken all xs) (filter (λ ix. gives xs ix) ps)) (sym none) ∙ c.loop-provider.invariant)
    ∙ sym (allocations_listed all (cloud_in_order c.args.cloud.now) xs c.args.list.now c.requires.below))
