use Rattle.std.proofs.Common.{◌≡◌, ◌==◌, filter, map, take}
use Rattle.ac_change.specs.Held.{provider_held}
use Rattle.ac_change.proofs.draft.copies.members.Given as goal

abbrev pub invariant-loop-held : goal.invariant-loop-held
invariant-loop-held l = map provider_held l.new.items ≡ map provider_held (filter (λ h. h.root == l.root) (take l.held-index l.list))
