use Rattle.ac_cloud.proofs.Common.{ℕ, refl, lists_of, is_met}
use Rattle.ac_cloud.proofs.Places.GroupFacts.{meets_more}
use Rattle.ac_cloud.proofs.cloud.roots_by_aggregate.Groups.gather.Goals as goal

pub loop-place-preserved : goal.loop-place-preserved
loop-place-preserved c = λ (a r : ℕ).
    meets_more c.args.roots.now (lists_of c.args.aggregates.now) c.loop-place.place a r _ c.of.result.now (is_met c.loop-place.groups.map a r) _ refl
    c.of.ensures
    (c.in_ok-groups.ensures a r) (c.loop-place.invariant a r)
