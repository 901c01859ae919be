use Rattle.std.proofs.Common.{◌≡◌, ◌++◌, drop, map}
use Rattle.std.specs.List.{flat_map}
use Rattle.ac_cloud.specs.Cloud.CloudWorld.{world_of}
use Rattle.ac_find.specs.Audit.{findings, kind_found}
use Rattle.ac_find.specs.Shown.Audit.{finding_shown}
use Rattle.ac_find.proofs.audit.find_amiss.Given as goal

abbrev pub invariant-loop-kind : goal.invariant-loop-kind
invariant-loop-kind l =
    map finding_shown l.found.items ++ flat_map (kind_found (world_of l.cloud) l.fn.zone) (drop l.kind-index l.kind-items)
    ≡ findings (world_of l.cloud) l.fn.zone
