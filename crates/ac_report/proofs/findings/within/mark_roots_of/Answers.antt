use Rattle.std.proofs.Common.{◌≡◌, ◌∙◌, ◌<◌, ◌||◌, ℕ, Some, false, ap, length, slice_index_or, subst, sym, arith}
use Rattle.std.specs.List.{All, range_with_len}
use Rattle.std.proofs.lemmas.List.{get_or-replicate, length-replicate, with_items_is}
use Rattle.std.proofs.lemmas.List.Elements.{All-filter, All-from_recursion}
use Rattle.std.proofs.lemmas.List.FromFn.{fill_by_all}
use Rattle.ac_cloud.specs.Cloud.CloudWorld.{providers_of}
use Rattle.ac_cloud.specs.World.{id_at, is_member, provider_at}
use Rattle.ac_rules.proofs.EachSlot.AnchorLemmas.{each_range}
use Rattle.ac_report.specs.Findings.HostRows.{is_within}
use Rattle.ac_report.specs.Texts.{meets_root}
use Rattle.ac_report.proofs.findings.within.mark_roots_of.Goals as goal

pub mark_roots-requires-clause-long : goal.mark_roots-requires-clause-long
mark_roots-requires-clause-long c =
    ap length c.deref_mut.ensures.value ∙ (ap length (c.in_ok-marks.ensures.items_if_clones_equal (λ _ e. e)) ∙ (length-replicate c.len.result false ∙ c.len.ensures))

pub mark_roots-requires-clause-providers : goal.mark_roots-requires-clause-providers
mark_roots-requires-clause-providers c =
    let n = length (providers_of c.args.cloud.now) in
    let below = λ (p : ℕ). p < n in
    subst (All below) (sym (c.deref.ensures.value ∙ c.in_ok-members.ensures))
    (All-filter (λ p. is_member (provider_at (providers_of c.args.cloud.now) p) c.args.aggregate) below (range_with_len 0 n) (All-from_recursion below (range_with_len 0 n) (each_range 0 n n (omega arith))))

pub returns : goal.returns
returns c =
    let all = providers_of c.args.cloud.now in
    let marks = c.mark_roots.new.marks in
    let were = ap length c.deref_mut.ensures.value in
    let falses = c.in_ok-marks.ensures.items_if_clones_equal (λ _ e. e) in
    let many : length marks ≡ length all = c.mark_roots.ensures.long ∙ (were ∙ (ap length falses ∙ (length-replicate c.len.result false ∙ c.len.ensures))) in
    with_items_is c.in_ok-marks.marks marks (c.mark_roots.ensures.long ∙ omega (arith, were, c.in_ok-marks.marks.ok))
    ∙ fill_by_all (is_within all (Some c.args.aggregate)) marks (length all) false many (λ r low.
    let old : slice_index_or c.deref_mut.result.now r false ≡ false = rw (c.deref_mut.ensures.value, falses) (get_or-replicate c.len.result r false false (omega (arith, low, c.len.ensures))) in
    c.mark_roots.ensures.marked r (omega (arith, low, many, c.mark_roots.ensures.long))
    ∙ (ap (λ b. b || meets_root all (id_at all r) c.deref.result.now) old ∙ ap (meets_root all (id_at all r)) (c.deref.ensures.value ∙ c.in_ok-members.ensures)))
