use Rattle.std.proofs.Common.{take}
use Rattle.ac_cloud.specs.Cloud.CloudWorld.{providers_of}
use Rattle.ac_report.specs.Called.{AreCalled, providers_called}
use Rattle.ac_report.proofs.called.Names.of_providers.Given as goal

abbrev pub invariant-loop-ix : goal.invariant-loop-ix
invariant-loop-ix l = AreCalled (take l.ix (providers_called (providers_of l.cloud))) l.names
