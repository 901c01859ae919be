use Rattle.std.proofs.Common.{map, take}
use Rattle.std.specs.List.{list_all}
use Rattle.ac_base.specs.Names.{trait_bytes}
use Rattle.ac_query.specs.Shown.Queries.{asked_of}
use Rattle.ac_cloud.specs.Cloud.CloudWorld.{providers_of}
use Rattle.ac_find.specs.Explained.{is_held}
use Rattle.ac_find.specs.Shown.Explained.{AreKept}
use Rattle.ac_find.proofs.counts.required.Unsuffixed.limit_each.Given as goal

abbrev pub invariant-loop-name : goal.invariant-loop-name
invariant-loop-name l =
    let all = providers_of l.self.cloud.now in
    AreKept all (λ r. list_all (λ name. is_held all (asked_of l.self.query.now) r name) (map trait_bytes (take l.name-index l.names))) l.fn.marks l.marks
