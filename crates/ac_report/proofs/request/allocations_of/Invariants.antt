use Rattle.std.proofs.Common.{◌≡◌, ◌++◌, drop, map, nat_cmp}
use Rattle.std.specs.List.{filter}
use Rattle.ac_query.specs.Shown.Queries.{asked_of}
use Rattle.ac_rules.specs.Placed.{assigned}
use Rattle.ac_cloud.specs.Cloud.CloudWorld.{providers_of}
use Rattle.ac_base.specs.Sorted.{rising}
use Rattle.ac_report.specs.Requests.{allocation_member}
use Rattle.ac_report.specs.Trees.{gives}
use Rattle.ac_report.proofs.Trees.Requests.{taken}
use Rattle.ac_report.proofs.request.allocations_of.Given as goal

abbrev pub invariant-loop-provider : goal.invariant-loop-provider
invariant-loop-provider l =
    let xs = assigned (asked_of l.query) l.list in
    let named = taken (providers_of l.cloud) xs in
    map allocation_member l.allocations.items ++ map named (filter (λ ix. gives xs ix) (drop l.provider-index l.provider-items))
    ≡ map named (filter (λ ix. gives xs ix) (rising nat_cmp l.list))
