use Rattle.std.proofs.Common.{◌≡◌, ℕ, ◌<◌, ◌||◌, false, length, get_or, drop}
use Rattle.std.specs.List.{list_any}
use Rattle.ac_cloud.specs.Cloud.CloudWorld.{providers_of}
use Rattle.ac_cloud.specs.World.{id_at}
use Rattle.ac_report.specs.Marks.{has_root}
use Rattle.ac_report.proofs.page.mark_roots.Given as goal

abbrev pub invariant-loop-ix : goal.invariant-loop-ix
invariant-loop-ix l =
    let all = providers_of l.cloud in
    record {
      long : length l.marks ≡ length l.fn.marks;
      marked : (r : ℕ) → r < length l.fn.marks → (get_or l.fn.marks r false || list_any (has_root all (id_at all r)) l.list) ≡ (get_or l.marks r false || list_any (has_root all (id_at all r)) (drop l.ix-index l.list));
    }
