use Rattle.std.proofs.Common.{length}
use Rattle.ac_report.proofs.findings.explanation.nobody.+push_traits.Given as goal

abbrev pub decreases-push_traits : goal.decreases-push_traits
decreases-push_traits g l = length l.names.now
