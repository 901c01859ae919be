use Rattle.std.proofs.Common.{◌≡◌, take, map, []}
use Rattle.std.specs.List.{range_with_len}
use Rattle.ac_query.specs.Asked.{slots_of}
use Rattle.ac_query.specs.Shown.Queries.{asked_of}
use Rattle.ac_cloud.specs.Cloud.CloudWorld.{providers_of}
use Rattle.ac_find.specs.Lacking.{first_unserved}
use Rattle.ac_find.specs.Shown.Lacking.{unserved}
use Rattle.ac_find.proofs.lacks.lacks_of_slots.Given as goal

abbrev pub invariant-loop-root : goal.invariant-loop-root
invariant-loop-root l = l.lacks.items ≡ map (λ r. first_unserved (providers_of l.cloud) r 1 []) (range_with_len 0 l._root)

abbrev pub invariant-loop-s : goal.invariant-loop-s
invariant-loop-s l = l.lacks.items ≡ unserved (providers_of l.cloud) (take l.s (slots_of (asked_of l.query)))
