use Rattle.ac_cloud.proofs.Common.{◌≡◌, ◌<◌, ℕ, length, get_or}
use Rattle.ac_cloud.proofs.cloud.roots.identity.Given as goal

abbrev pub invariant-loop-i : goal.invariant-loop-i
invariant-loop-i l =
    record {
      count : length l.all.items ≡ l.i;
      done : (k : ℕ) → k < l.i → get_or l.all.items k 0 ≡ k;
    }
