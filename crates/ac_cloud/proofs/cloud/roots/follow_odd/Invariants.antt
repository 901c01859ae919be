use Rattle.ac_cloud.proofs.Common.{◌≡◌, ◌<◌, ◌≤◌, ℕ, length, get_or}
use Rattle.ac_cloud.proofs.cloud.roots.follow_odd.Given as goal

abbrev pub invariant-loop-i : goal.invariant-loop-i
invariant-loop-i l =
    record {
      count : length l.places.items ≡ length l.initial.places.items;
      done : (k : ℕ) → k < l.i → get_or l.places.items k 0 ≡ get_or l.step (get_or l.initial.places.items k 0) 0;
      rest : (k : ℕ) → l.i ≤ k → get_or l.places.items k 0 ≡ get_or l.initial.places.items k 0;
    }
