use Rattle.ac_cloud.proofs.Common.{◌≡◌, ◌<◌, ℕ, length, get_or, climb, top, along, ArePlaces, parent_in}
use Rattle.ac_cloud.proofs.cloud.roots.find_tops.Given as goal

-- what is left of the steps leads from the places so far to the tops
abbrev pub invariant-loop-left : goal.invariant-loop-left
invariant-loop-left l =
    record {
      step_count : length l.step.items ≡ length l.parents;
      count : length l.places.items ≡ length l.parents;
      step_inside : ArePlaces (length l.parents) l.step.items;
      inside : ArePlaces (length l.parents) l.places.items;
      ahead : (i : ℕ) → i < length l.parents → climb (along l.step.items) l.left (get_or l.places.items i 0) ≡ top (parent_in l.parents) (length l.parents) i;
    }

abbrev pub decreases-loop-left : goal.decreases-loop-left
decreases-loop-left l = l.left
