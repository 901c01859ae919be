use Rattle.std.proofs.Common.{◌≡◌, map, take}
use Rattle.ac_cloud.specs.Cloud.CloudWorld.{providers_of}
use Rattle.ac_query.specs.Shown.Queries.{asked_of}
use Rattle.ac_find.specs.Lacking.{lack_at}
use Rattle.ac_report.proofs.findings.host_sums.lacks_at.Given as goal

abbrev pub invariant-loop-root : goal.invariant-loop-root
invariant-loop-root l = l.found.items ≡ map (lack_at (providers_of l.cloud) (asked_of l.query)) (take l.root-index l.roots)
