use Rattle.std.proofs.Common.{◌≡◌, ◌++◌, map, drop, Some}
use Rattle.ac_query.specs.Asked.{slots_from}
use Rattle.ac_query.specs.Shown.Groups.{group_entry}
use Rattle.ac_query.specs.Shown.Slots.{slot_shown}
use Rattle.ac_query.proofs.query.read.slots_in_order.Given as goal

abbrev pub invariant-loop-place : goal.invariant-loop-place
invariant-loop-place l = map (slot_shown (map group_entry l.groups)) l.slots.items ++ map (λ s. Some s) (slots_from l.place (drop l.place (map group_entry l.groups)))
    ≡ map (λ s. Some s) (slots_from 0 (map group_entry l.groups))
