use Rattle.std.proofs.Common.{◌≡◌, length}
use Rattle.ac_change.proofs.draft.building.places.Given as goal

abbrev pub invariant-loop-place : goal.invariant-loop-place
invariant-loop-place l = length l.turns.items ≡ l.place
