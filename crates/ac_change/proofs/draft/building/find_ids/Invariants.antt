use Rattle.std.proofs.Common.{◌≡◌, map, take}
use Rattle.ac_change.proofs.draft.building.find_ids.Given as goal

abbrev pub invariant-loop-held : goal.invariant-loop-held
invariant-loop-held l = l.ids.items ≡ map (λ h. h.id) (take l.held-index l.list)
