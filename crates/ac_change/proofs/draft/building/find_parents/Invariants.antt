use Rattle.std.proofs.Common.{◌≡◌, map, option_and_then, take}
use Rattle.ac_cloud.specs.Cloud.Places.{rank}
use Rattle.ac_change.proofs.draft.building.find_parents.Given as goal

abbrev pub invariant-loop-held : goal.invariant-loop-held
invariant-loop-held l = l.parents.items ≡ map (λ h. option_and_then (rank l.ids.ids.items) h.parent) (take l.held-index l.list)
