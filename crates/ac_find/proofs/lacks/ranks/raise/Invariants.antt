use Rattle.std.proofs.Common.{◌≡◌, ◌<◌, ℕ, ◌&&◌, ◌||◌, drop, length, nat_lt, slice_index}
use Rattle.ac_prune.specs.Trees.Keys.{is_there}
use Rattle.ac_find.proofs.lacks.ranks.raise.Given as goal

abbrev pub invariant-loop-place : goal.invariant-loop-place
invariant-loop-place l = (k r : ℕ) → r < length l.fn.ranks
    → (nat_lt k (slice_index l.ranks r) || (is_there (drop l.place-index l.places) r && nat_lt k l.rank)) ≡ (nat_lt k (slice_index l.fn.ranks r) || (is_there l.places r && nat_lt k l.rank))
