use Rattle.std.proofs.Common.{◌≡◌, ◌<◌, ◌-◌, ◌+◌, ◌^◌, ℕ, length, slice_index}
use Rattle.std.specs.Prelude.{min}
use Rattle.std.specs.List.{filter, range_with_len}
use Rattle.ac_cloud.specs.World.{is_available_at}
use Rattle.ac_cloud.specs.Cloud.CloudWorld.{providers_of, root_lists_of}
use Rattle.ac_prune.specs.Ahead.{load_of}
use Rattle.ac_prune.specs.Loads.{brought_at}
use Rattle.ac_fill.proofs.by_root.sums_by_list.Given as goal

abbrev pub invariant-loop-ix : goal.invariant-loop-ix
invariant-loop-ix l =
    let all = providers_of l.cloud in
    record {
      count : length l.sums ≡ length all;
      lists : length l.of_lists.items ≡ length (root_lists_of l.cloud);
      split : (r : ℕ) → r < length all → min (slice_index l.sums r + brought_at (root_lists_of l.cloud) l.of_lists.items r) (2 ^ 128 - 1) ≡ min (load_of (λ p. slice_index l.numbers p) (filter (λ p. is_available_at all p r) (range_with_len 0 l.ix))) (2 ^ 128 - 1);
    }
