use Rattle.std.proofs.Common.{◌≡◌, map}
use Rattle.std.specs.List.{range_with_len}
use Rattle.ac_query.specs.Shown.Queries.{asked_of}
use Rattle.ac_cloud.specs.Cloud.CloudWorld.{providers_of}
use Rattle.ac_prune.specs.Fitting.{fits_at}
use Rattle.ac_search.proofs.hosts.fitting_roots.Given as goal

abbrev pub invariant-loop-root : goal.invariant-loop-root
invariant-loop-root l = l.fits.items ≡ map (fits_at (providers_of l.cloud) (asked_of l.query)) (range_with_len 0 l.root)
