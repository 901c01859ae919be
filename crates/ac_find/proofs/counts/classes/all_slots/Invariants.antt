use Rattle.std.proofs.Common.{◌≡◌, map, take}
use Rattle.ac_query.specs.Asked.{slots_of}
use Rattle.ac_query.specs.Shown.Queries.{asked_of}
use Rattle.ac_cloud.specs.Cloud.CloudWorld.{providers_of}
use Rattle.ac_find.specs.Explained.{slot_told}
use Rattle.ac_find.specs.Shown.Explained.{slot_shown}
use Rattle.ac_find.proofs.counts.classes.all_slots.Given as goal

abbrev pub invariant-loop-s : goal.invariant-loop-s
invariant-loop-s l = map slot_shown l.told.items ≡ map (slot_told (providers_of l.cloud)) (take l.s (slots_of (asked_of l.query)))
