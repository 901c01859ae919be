use Rattle.std.proofs.Common.{◌≡◌, ◌++◌, map, take}
use Rattle.ac_base.specs.Names.{class_bytes}
use Rattle.ac_cloud.specs.Cloud.CloudWorld.{providers_of}
use Rattle.ac_prune.specs.Left.{room_on}
use Rattle.ac_prune.proofs.ledger.rooms.push_row.Given as goal

abbrev pub invariant-loop-class : goal.invariant-loop-class
invariant-loop-class l = l.rooms.items ≡ l.fn.rooms.items ++ map (λ c. room_on (providers_of l.cloud) l.ix (class_bytes c.now)) (take l.class-index l.classes)
