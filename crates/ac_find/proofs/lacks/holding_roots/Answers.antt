use Rattle.std.proofs.Common.{◌≡◌, ◌∙◌, ◌&&◌, true, false, length, slice_index_or, ap, arith}
use Rattle.std.proofs.lemmas.List.{get_or-replicate, length-replicate, with_items_is}
use Rattle.std.proofs.lemmas.List.FromFn.{fill_by_all}
use Rattle.ac_cloud.specs.Cloud.CloudWorld.{providers_of}
use Rattle.ac_query.specs.Shown.Queries.{asked_of}
use Rattle.ac_find.specs.Explained.{holds_required}
use Rattle.ac_find.proofs.lacks.holding_roots.Goals as goal

pub limit_required-requires : goal.limit_required-requires
limit_required-requires c =
    ap length c.deref_mut.ensures.value ∙ (ap length (c.in_ok-holds.ensures.items_if_clones_equal (λ _ e. e)) ∙ (length-replicate c.len.result true ∙ c.len.ensures))

pub returns : goal.returns
returns c =
    let all = providers_of c.args.cloud.now in
    let holds = holds_required all (asked_of c.args.query.now) in
    let marks = c.limit_required.new.marks in
    let were = ap length c.deref_mut.ensures.value in
    let trues = c.in_ok-holds.ensures.items_if_clones_equal (λ _ e. e) in
    let many : length marks ≡ length all = c.limit_required.auto.marks ∙ (were ∙ (ap length trues ∙ (length-replicate c.len.result true ∙ c.len.ensures))) in
    with_items_is c.in_ok-holds.holds marks (c.limit_required.auto.marks ∙ omega (arith, were, c.in_ok-holds.holds.ok))
    ∙ fill_by_all holds marks (length all) false many (λ r low.
    let old : slice_index_or c.deref_mut.result.now r false ≡ true = rw (c.deref_mut.ensures.value, trues) (get_or-replicate c.len.result r true false (omega (arith, low, c.len.ensures))) in
    c.in_ok-limit_required.ensures r low ∙ ap (λ b. b && holds r) old)
