use Rattle.std.proofs.Common.{◌≡◌, ℕ, false, if◌then◌else◌, map, slice_index_or}
use Rattle.std.specs.List.{range_with_len}
use Rattle.ac_cloud.specs.World.{left_of, provider_at, used_of}
use Rattle.ac_cloud.specs.Cloud.CloudWorld.{providers_of}
use Rattle.ac_query.specs.Shown.Groups.{need_entry}
use Rattle.ac_rules.specs.Own.{inventory_of}
use Rattle.ac_find.specs.Explained.{greatest_of}
use Rattle.ac_find.proofs.counts.classes.most_left.Given as goal

abbrev pub invariant-loop-ix : goal.invariant-loop-ix
invariant-loop-ix l =
    let all = providers_of l.cloud in
    l.most ≡ greatest_of (map (λ (p : ℕ). if slice_index_or l.marks p false
    then left_of (inventory_of (provider_at all p) (need_entry l.need).0) (used_of (provider_at all p) (need_entry l.need).0) else 0) (range_with_len 0 l.ix))
