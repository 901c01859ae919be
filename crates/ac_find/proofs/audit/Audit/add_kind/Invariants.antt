use Rattle.std.proofs.Common.{◌≡◌, ◌++◌, ◌-◌, length, map}
use Rattle.std.specs.List.{flat_map, range_with_len}
use Rattle.ac_cloud.specs.Cloud.CloudWorld.{providers_of, world_of}
use Rattle.ac_find.specs.Audit.{kind_found, provider_found}
use Rattle.ac_find.specs.Shown.Audit.{finding_shown, zone_id}
use Rattle.ac_find.proofs.audit.Audit.add_kind.Given as goal

abbrev pub invariant-loop-ix : goal.invariant-loop-ix
invariant-loop-ix l =
    let all = providers_of l.self.cloud.now in
    map finding_shown l.found.items ++ flat_map (provider_found all (zone_id l.self.zone) l.kind) (range_with_len l.ix (length all - l.ix))
    ≡ map finding_shown l.fn.found.items ++ kind_found (world_of l.self.cloud.now) (zone_id l.self.zone) l.kind
