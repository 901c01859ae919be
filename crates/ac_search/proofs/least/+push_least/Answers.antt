use Rattle.std.proofs.Common.{sym, ◌∙◌, arith}
use Rattle.ac_cloud.specs.Cloud.CloudWorld.{providers_of}
use Rattle.ac_prune.proofs.Roots.TreeLemmas.{few_providers}
use Rattle.ac_search.proofs.Search.LeastLemmas.{known_low}
use Rattle.ac_search.proofs.least.+push_least.Goals as goal

pub overflow_add-place : goal.overflow_add-place
overflow_add-place t c =
    let low = known_low (providers_of c.args.cloud.now) c.in-Some.id.now (sym c.is_known.ensures ∙ c.if-not-is_known.false) in
    omega (arith, low, c.rank-place.ensures, few_providers c.args.cloud.now)
