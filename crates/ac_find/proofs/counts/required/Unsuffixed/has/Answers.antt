use Rattle.std.proofs.Common.{◌∙◌, Bool, List, ap, length, slice_index_or, arith}
use Rattle.std.proofs.lemmas.List.FromFn.{get_or-map-range_with_len, length-map-range_with_len}
use Rattle.ac_query.specs.Shown.Queries.{asked_of}
use Rattle.ac_cloud.specs.Cloud.CloudWorld.{providers_of}
use Rattle.ac_find.specs.Explained.{serves_unsuffixed}
use Rattle.ac_find.proofs.counts.required.Unsuffixed.has.Goals as goal

pub index-requires : goal.index-requires
index-requires c =
    let size = ap length c.args.self.now.counted ∙ length-map-range_with_len _ 0 (length (providers_of c.args.self.now.cloud.now)) in
    omega (arith, size, c.requires)

pub returns : goal.returns
returns c =
    let all = providers_of c.args.self.now.cloud.now in
    c.index.ensures
    ∙ ap (λ (marks : List Bool). slice_index_or marks c.args.ix c.index.result.now) c.args.self.now.counted
    ∙ get_or-map-range_with_len (serves_unsuffixed all (asked_of c.args.self.now.query.now)) 0 (length all) c.args.ix c.args.ix c.index.result.now c.requires (omega arith)
