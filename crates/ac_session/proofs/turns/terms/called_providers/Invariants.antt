use Rattle.std.proofs.Common.{◌≡◌, map, take}
use Rattle.ac_cloud.specs.Cloud.CloudWorld.{providers_of}
use Rattle.ac_report.specs.Called.{providers_called}
use Rattle.ac_tables.specs.Called.{called_shown}
use Rattle.ac_session.proofs.turns.terms.called_providers.Given as goal

abbrev pub invariant-loop-ix : goal.invariant-loop-ix
invariant-loop-ix l = map called_shown l.called.items ≡ take l.ix (providers_called (providers_of l.cloud))
