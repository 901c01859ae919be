use Rattle.std.proofs.Common.{◌≡◌, false, take}
use Rattle.std.specs.List.{list_any}
use Rattle.ac_cloud.specs.Cloud.CloudWorld.{providers_of}
use Rattle.ac_query.specs.Shown.Queries.{asked_of}
use Rattle.ac_prune.specs.Fitting.{fits_at}
use Rattle.ac_report.proofs.findings.host_rows.some_fit.Given as goal

abbrev pub invariant-loop-root : goal.invariant-loop-root
invariant-loop-root l = list_any (fits_at (providers_of l.fn.cloud) (asked_of l.fn.query)) (take l.root-index l.roots) ≡ false
