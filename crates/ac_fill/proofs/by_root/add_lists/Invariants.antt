use Rattle.std.proofs.Common.{◌≡◌, ◌<◌, ◌-◌, ◌+◌, ◌^◌, ℕ, drop, length, map, slice_index}
use Rattle.std.specs.Prelude.{min}
use Rattle.ac_prune.specs.Loads.{brought_at}
use Rattle.ac_fill.proofs.by_root.add_lists.Given as goal

abbrev pub invariant-loop-k : goal.invariant-loop-k
invariant-loop-k l = record {
  count : length l.sums ≡ length l.fn.sums;
  brought : (r : ℕ) → r < length l.fn.sums → min (slice_index l.sums r + brought_at (drop l.k (map (λ v. v.items) l.lists)) (drop l.k l.of_lists) r) (2 ^ 128 - 1) ≡ min (slice_index l.fn.sums r + brought_at (map (λ v. v.items) l.lists) l.of_lists r) (2 ^ 128 - 1);
}
