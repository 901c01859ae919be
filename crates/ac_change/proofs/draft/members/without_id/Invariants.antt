use Rattle.std.proofs.Common.{◌≡◌, filter, is_eq, nat_cmp, not, take}
use Rattle.ac_change.proofs.draft.members.without_id.Given as goal

abbrev pub invariant-loop-other : goal.invariant-loop-other
invariant-loop-other l = l.new.items ≡ filter (λ y. not (is_eq (nat_cmp y l.id))) (take l.other-index l.ids)
