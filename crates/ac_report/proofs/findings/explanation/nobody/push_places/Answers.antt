use Rattle.std.proofs.Common.{ap}
use Rattle.std.specs.List.{flat_map}
use Rattle.ac_cloud.specs.Cloud.CloudWorld.{providers_of}
use Rattle.ac_query.specs.Pairs.Values.{AggregateRule}
use Rattle.ac_report.specs.Findings.Explanation.Nobody.{rule_missed, tree_missed}
use Rattle.ac_report.proofs.FoundTexts.Begun.{pushed_behind}
use Rattle.ac_report.proofs.findings.explanation.nobody.push_places.Goals as goal

pub returns : goal.returns
returns g c =
    let all = providers_of c.args.cloud.now in
    pushed_behind (ap (flat_map (λ (rule : AggregateRule). rule_missed all rule)) c.member_of.ensures) (ap (tree_missed all) c.in_tree.ensures) c.in_ok-push_rules.ensures c.push_tree.ensures
