use Rattle.std.proofs.Common.{◌≡◌}
use Rattle.ac_cloud.specs.Cloud.CloudWorld.{providers_of}
use Rattle.ac_query.specs.Shown.Queries.{asked_of}
use Rattle.ac_report.specs.Findings.Explanation.Candidates.{subtrees_found_before}
use Rattle.ac_report.proofs.findings.explanation.without.find_subtrees.Given as goal

abbrev pub invariant-loop-list : goal.invariant-loop-list
invariant-loop-list l = l.found.items ≡ subtrees_found_before (providers_of l.cloud) (asked_of l.question.query) l._list
