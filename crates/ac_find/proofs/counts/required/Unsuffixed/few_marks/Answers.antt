use Rattle.std.proofs.Common.{◌≡◌, ◌∙◌, ◌&&◌, ℕ, false, ap, arith, length, map, slice_index_or, sym}
use Rattle.std.specs.List.{range_with_len}
use Rattle.std.proofs.lemmas.Grind.{common_steps}
use Rattle.ac_base.specs.Names.{trait_bytes}
use Rattle.ac_query.specs.Shown.Queries.{asked_of}
use Rattle.ac_cloud.specs.Cloud.CloudWorld.{providers_of}
use Rattle.ac_find.specs.Shown.Explained.{holds_each}
use Rattle.ac_prune.proofs.Search.OpenLemmas.{map_range_more}
use Rattle.ac_find.proofs.counts.required.Unsuffixed.few_marks.Goals as goal

pub loop-root-preserved : goal.loop-root-preserved
loop-root-preserved c =
    let kept = λ (r : ℕ). slice_index_or c.args.marks.now r false && holds_each (providers_of c.args.self.now.cloud.now) (asked_of c.args.self.now.query.now) (map trait_bytes c.args.names.now) r in
    let here : kept c.loop-root.root ≡ c.in_ok-stays.field-0 = sym c.in_ok-stays.ensures in
    rw (map_range_more kept c.loop-root.root) (grind (arith, common_steps, here))

pub returns : goal.returns
returns c =
    let all = providers_of c.args.self.now.cloud.now in
    let kept = λ (r : ℕ). slice_index_or c.args.marks.now r false && holds_each all (asked_of c.args.self.now.query.now) (map trait_bytes c.args.names.now) r in
    let done : c.loop-root.root ≡ length all = omega (arith, c.loop-root-test.false, c.loop-root.auto.root-end, c.len-root-end.ensures) in
    c.loop-root.invariant ∙ ap (λ (n : ℕ). map kept (range_with_len 0 n)) done
