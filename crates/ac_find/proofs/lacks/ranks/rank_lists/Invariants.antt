use Rattle.std.proofs.Common.{◌≡◌, ◌<◌, ℕ, ◌||◌, length, nat_lt, slice_index}
use Rattle.std.specs.List.{filter, list_any, range_with_len}
use Rattle.ac_query.specs.Shown.Queries.{asked_of}
use Rattle.ac_cloud.specs.World.{is_available_at}
use Rattle.ac_cloud.specs.Cloud.CloudWorld.{providers_of, root_lists_of}
use Rattle.ac_rules.specs.Placed.{slot_at}
use Rattle.ac_find.specs.Explained.{in_slot}
use Rattle.ac_find.specs.Shown.Furthest.{AreSmall, rank}
use Rattle.ac_find.specs.Shown.Lacking.{is_listed}
use Rattle.ac_find.proofs.lacks.ranks.rank_lists.Given as goal

abbrev pub invariant-loop-ix : goal.invariant-loop-ix
invariant-loop-ix l =
    let all = providers_of l.cloud in
    let slot = slot_at (asked_of l.query) l.s in
    record {
      count : length l.ranks ≡ length all;
      lists : length l.listed.items ≡ length (root_lists_of l.cloud);
      small : AreSmall all slot l.ix;
      reached : (k r : ℕ) → r < length all
          → (nat_lt k (slice_index l.ranks r) || is_listed k (root_lists_of l.cloud) l.listed.items r) ≡ list_any (λ p. nat_lt k (rank all (in_slot slot p))) (filter (λ p. is_available_at all p r) (range_with_len 0 l.ix));
    }
