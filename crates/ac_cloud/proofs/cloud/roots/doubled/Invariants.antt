use Rattle.ac_cloud.proofs.Common.{◌≡◌, ◌<◌, ℕ, length, get_or}
use Rattle.ac_cloud.proofs.cloud.roots.doubled.Given as goal

abbrev pub invariant-loop-place : goal.invariant-loop-place
invariant-loop-place l =
    record {
      count : length l.twice.items ≡ l.place-index;
      done : (k : ℕ) → k < l.place-index → get_or l.twice.items k 0 ≡ get_or l.step (get_or l.step k 0) 0;
    }
