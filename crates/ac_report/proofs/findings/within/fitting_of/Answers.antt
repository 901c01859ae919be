use Rattle.std.proofs.Common.{◌<◌, length}
use Rattle.std.proofs.lemmas.List.Elements.{All-get_or}
use Rattle.ac_cloud.specs.Cloud.CloudWorld.{providers_of}
use Rattle.ac_report.proofs.findings.within.fitting_of.Goals as goal

pub is_fitting-requires-clause-root : goal.is_fitting-requires-clause-root
is_fitting-requires-clause-root c =
    All-get_or (λ r. r < length (providers_of c.args.cloud.now)) c.args.roots.now c.loop-root.root-index 0 c.loop-root-test.true c.requires.roots
