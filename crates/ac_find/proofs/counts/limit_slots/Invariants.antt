use Rattle.std.proofs.Common.{◌≡◌, take}
use Rattle.ac_query.specs.Asked.{slots_of}
use Rattle.ac_query.specs.Shown.Queries.{asked_of}
use Rattle.ac_cloud.specs.Cloud.CloudWorld.{providers_of}
use Rattle.ac_find.specs.Shown.Explained.{served_roots}
use Rattle.ac_find.proofs.counts.limit_slots.Given as goal

abbrev pub invariant-loop-s : goal.invariant-loop-s
invariant-loop-s l = l.marks ≡ served_roots (providers_of l.cloud) (asked_of l.query) (take l.s (slots_of (asked_of l.query)))
