use Rattle.std.proofs.Common.{◌∙◌, ◌&&◌, false, List, Bool, ℕ, ap, arith, length, map, slice_index_or}
use Rattle.std.proofs.lemmas.List.FromFn.{get_or-map-range_with_len, length-map-range_with_len}
use Rattle.ac_base.specs.Names.{trait_bytes}
use Rattle.ac_query.specs.Shown.Queries.{asked_of}
use Rattle.ac_cloud.specs.Cloud.CloudWorld.{providers_of}
use Rattle.ac_find.specs.Shown.Explained.{holds_each}
use Rattle.ac_find.proofs.counts.required.Unsuffixed.limit_few.Goals as goal

pub copy_from_slice-requires : goal.copy_from_slice-requires
copy_from_slice-requires c =
    let n = length (providers_of c.args.self.now.cloud.now) in
    let size = ap length (c.deref.ensures.value ∙ c.in_ok-few.ensures) ∙ length-map-range_with_len _ 0 n in
    omega (arith, size, c.requires)

pub returns : goal.returns
returns c = λ r low.
    let all = providers_of c.args.self.now.cloud.now in
    let kept = λ (r : ℕ). slice_index_or c.args.marks.now r false && holds_each all (asked_of c.args.self.now.query.now) (map trait_bytes c.args.names.now) r in
    ap (λ (marks : List Bool). slice_index_or marks r false) (c.copy_from_slice.ensures.after ∙ (c.deref.ensures.value ∙ c.in_ok-few.ensures)) ∙ get_or-map-range_with_len kept 0 (length all) r r false low (omega arith)
