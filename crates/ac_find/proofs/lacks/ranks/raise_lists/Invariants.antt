use Rattle.std.proofs.Common.{◌≡◌, ◌<◌, ℕ, ◌&&◌, ◌||◌, [], length, get_or, map, nat_lt, slice_index}
use Rattle.std.specs.List.{list_any, range_with_len}
use Rattle.ac_cloud.specs.Cloud.Anchors.{list_items}
use Rattle.ac_prune.specs.Trees.Keys.{is_there}
use Rattle.ac_find.proofs.lacks.ranks.raise_lists.Given as goal

abbrev pub invariant-loop-k : goal.invariant-loop-k
invariant-loop-k l = record {
  count : length l.ranks ≡ length l.fn.ranks;
  raised : (j r : ℕ) → r < length l.fn.ranks
      → nat_lt j (slice_index l.ranks r) ≡ (nat_lt j (slice_index l.fn.ranks r)
      || list_any (λ i. is_there (get_or (map list_items l.lists) i []) r && nat_lt j (slice_index l.listed i)) (range_with_len 0 l.k));
}
