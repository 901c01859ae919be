use Rattle.ac_cloud.proofs.Common.{◌≡◌, ℕ, is_met, meets, lists_of}
use Rattle.ac_cloud.proofs.cloud.roots_by_aggregate.Groups.gather.Given as goal

abbrev pub invariant-loop-place : goal.invariant-loop-place
invariant-loop-place l = (a r : ℕ) → is_met l.groups.map a r ≡ meets l.roots (lists_of l.aggregates) l.place a r
