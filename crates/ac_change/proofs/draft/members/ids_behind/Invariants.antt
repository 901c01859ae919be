use Rattle.std.proofs.Common.{◌≡◌, filter, nat_cmp, take}
use Rattle.std.specs.Ordering.{is_lt}
use Rattle.ac_change.proofs.draft.members.ids_behind.Given as goal

abbrev pub invariant-loop-other : goal.invariant-loop-other
invariant-loop-other l = l.new.items ≡ filter (λ y. is_lt (nat_cmp l.id y)) (take l.other-index l.ids)
