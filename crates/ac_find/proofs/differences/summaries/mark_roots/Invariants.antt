use Rattle.std.proofs.Common.{◌≡◌, ℕ, ◌<◌, ◌-◌, ◌||◌, false, length, get_or}
use Rattle.std.specs.List.{list_any, range_with_len}
use Rattle.ac_cloud.specs.Cloud.CloudWorld.{providers_of}
use Rattle.ac_cloud.specs.World.{id_at}
use Rattle.ac_find.specs.Service.Differing.{has_other_below, tree_has_other}
use Rattle.ac_find.proofs.differences.summaries.mark_roots.Given as goal

abbrev pub invariant-loop-ix : goal.invariant-loop-ix
invariant-loop-ix l =
    let all = providers_of l.cloud in
    record {
      long : length l.marks ≡ length l.fn.marks;
      marked : (r : ℕ) → r < length l.fn.marks
          → (get_or l.fn.marks r false || tree_has_other all (id_at all r))
          ≡ (get_or l.marks r false || list_any (has_other_below all (id_at all r)) (range_with_len l.ix (length all - l.ix)));
    }
