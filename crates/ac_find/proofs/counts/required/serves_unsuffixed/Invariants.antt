use Rattle.std.proofs.Common.{◌≡◌, ◌&&◌, drop}
use Rattle.std.specs.List.{list_any}
use Rattle.std.specs.Option.{is_none}
use Rattle.ac_query.specs.Asked.{Slot, slots_of}
use Rattle.ac_query.specs.Shown.Queries.{asked_of}
use Rattle.ac_cloud.specs.Cloud.CloudWorld.{providers_of}
use Rattle.ac_find.specs.Explained.{in_slot, meets_room}
use Rattle.ac_find.proofs.counts.required.serves_unsuffixed.Given as goal

abbrev pub invariant-loop-s : goal.invariant-loop-s
invariant-loop-s l =
    let serves = λ (slot : Slot). is_none slot.suffix && meets_room (providers_of l.cloud) (in_slot slot l.ix) in
    list_any serves (drop l.s (slots_of (asked_of l.query))) ≡ list_any serves (slots_of (asked_of l.query))
