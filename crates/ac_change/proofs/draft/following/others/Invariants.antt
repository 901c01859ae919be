use Rattle.std.proofs.Common.{◌≡◌, ◌++◌, ◌==◌, filter, not}
use Rattle.std.specs.Vec.Iter.{into_iter_items}
use Rattle.ac_change.proofs.draft.following.others.Given as goal

abbrev pub invariant-loop-held : goal.invariant-loop-held
invariant-loop-held l = l.new.items ++ filter (λ h. not (h.root == l.root)) (into_iter_items l.held-iterator) ≡ filter (λ h. not (h.root == l.root)) l.fn.list.items
