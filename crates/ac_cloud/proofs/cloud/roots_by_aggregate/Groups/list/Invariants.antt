use Rattle.ac_cloud.proofs.Common.{◌≡◌, ℕ, take, ◌==◌, list_any, is_met}
use Rattle.ac_cloud.proofs.cloud.roots_by_aggregate.Groups.list.Given as goal

abbrev pub invariant-loop-aggregate : goal.invariant-loop-aggregate
invariant-loop-aggregate l = (r : ℕ) → list_any (λ (x : ℕ). x == r) l.list.items ≡ list_any (λ (a : ℕ). is_met l.self.map a r) (take l.aggregate-index l.aggregates)
