use Rattle.std.proofs.Common.{map, arith}
use Rattle.std.proofs.lemmas.List.{length-map}
use Rattle.ac_query.specs.Shown.Groups.{group_entry}
use Rattle.ac_query.proofs.Slots.{slots_go_on, shown_read}
use Rattle.ac_query.proofs.query.read.slots_in_order.Goals as goal

pub loop-place-preserved : goal.loop-place-preserved
loop-place-preserved c =
    let all = map group_entry c.args.groups.now in
    let is = shown_read group_entry c.args.groups.now c.loop-place.place c.index-groups-place.result (omega (arith, length-map c.args.groups.now group_entry)) c.index-groups-place.is in
    slots_go_on all c.loop-place.place (group_entry c.index-groups-place.result) _ _ _ is (c.in_ok-add_slots.ensures all is) c.loop-place.invariant
