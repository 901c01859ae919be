use Rattle.std.proofs.Common.{refl}
use Rattle.ac_report.specs.Findings.Explanation.Candidates.{subtree_line}
use Rattle.ac_report.proofs.FoundTexts.Begun.{pushed_behind}
use Rattle.ac_report.proofs.findings.explanation.without.push_subtree.Goals as goal

pub returns : goal.returns
unfolding subtree_line
returns g c = pushed_behind refl c.outcome.ensures c.in_ok-push_suffixes.ensures c.push_all.ensures.pushes
