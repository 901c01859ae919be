use Rattle.std.proofs.Common.{◌∙◌, ℕ, ap, arith, length}
use Rattle.std.proofs.lemmas.List.FromFn.{length-map-range_with_len}
use Rattle.ac_cloud.specs.Cloud.CloudWorld.{providers_of}
use Rattle.ac_query.specs.Shown.Queries.{asked_of}
use Rattle.ac_query.specs.Without.{without_subtree}
use Rattle.ac_report.specs.Findings.Explanation.Candidates.{has_candidate}
use Rattle.ac_report.proofs.findings.explanation.without.find_without.Goals as goal

pub returns-clause-few : goal.returns-clause-few
returns-clause-few c =
    let all = providers_of c.args.cloud.now in
    let asked = asked_of c.args.question.now.query in
    let many =
    ap length c.in_ok-subtrees.ensures.found
    ∙ length-map-range_with_len (λ (k : ℕ). has_candidate all (without_subtree k asked)) 0 (length asked.subtrees) in
    omega (arith, many)
