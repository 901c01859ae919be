use Rattle.ac_cloud.proofs.Common.{◌≡◌, ℕ, take, ◌==◌, ◌||◌, ◌&&◌, is_met, is_among}
use Rattle.ac_cloud.proofs.cloud.roots_by_aggregate.Groups.with_all.Given as goal

abbrev pub invariant-loop-aggregate : goal.invariant-loop-aggregate
invariant-loop-aggregate l =
    (a r : ℕ) → is_met l.groups.map a r ≡ (is_met l.fn.self.map a r || ((l.root == r) && is_among a (take l.aggregate-index l.aggregates)))
