use Rattle.std.proofs.Common.{◌≡◌, take}
use Rattle.std.specs.List.{filter}
use Rattle.ac_cloud.specs.Cloud.CloudWorld.{providers_of}
use Rattle.ac_query.specs.Shown.Queries.{asked_of}
use Rattle.ac_prune.specs.Fitting.{fits_at}
use Rattle.ac_report.proofs.findings.within.fitting_of.Given as goal

abbrev pub invariant-loop-root : goal.invariant-loop-root
invariant-loop-root l = l.kept.items ≡ filter (fits_at (providers_of l.cloud) (asked_of l.query)) (take l.root-index l.roots)
