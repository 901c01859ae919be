use Rattle.std.proofs.Common.{◌≡◌, ◌<◌, ◌-◌, ◌+◌, ◌^◌, ℕ, drop, length, map, slice_index}
use Rattle.std.specs.Prelude.{min}
use Rattle.ac_prune.specs.Loads.{brought_at}
use Rattle.ac_prune.proofs.hosts.loads.add_lists.Given as goal

abbrev pub invariant-loop-k : goal.invariant-loop-k
invariant-loop-k l = record {
  count : length l.loads ≡ length l.fn.loads;
  brought : (r : ℕ) → r < length l.fn.loads → min (slice_index l.loads r + brought_at (drop l.k (map (λ v. v.items) l.lists)) (drop l.k l.sums) r) (2 ^ 64 - 1) ≡ min (slice_index l.fn.loads r + brought_at (map (λ v. v.items) l.lists) l.sums r) (2 ^ 64 - 1);
}
