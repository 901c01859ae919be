use Rattle.ac_cloud.proofs.Common.{◌≡◌, ◌<◌, ℕ, length, get_or, up, parent_in}
use Rattle.ac_cloud.proofs.cloud.roots.steps_up.Given as goal

abbrev pub invariant-loop-i : goal.invariant-loop-i
invariant-loop-i l =
    record {
      count : length l.step.items ≡ l.i;
      done : (k : ℕ) → k < l.i → get_or l.step.items k 0 ≡ up (parent_in l.parents) k;
    }
