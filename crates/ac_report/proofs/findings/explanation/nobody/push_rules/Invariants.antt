use Rattle.std.proofs.Common.{drop, map}
use Rattle.std.specs.List.{flat_map}
use Rattle.ac_cloud.specs.Cloud.CloudWorld.{providers_of}
use Rattle.ac_query.specs.Shown.Groups.{rule_shown}
use Rattle.ac_query.specs.Pairs.Values.{AggregateRule}
use Rattle.ac_report.specs.Findings.Explanation.Nobody.{rule_missed}
use Rattle.ac_report.proofs.FoundTexts.Begun.{IsBegun}
use Rattle.ac_report.proofs.findings.explanation.nobody.push_rules.Given as goal

abbrev pub invariant-loop-rule : goal.invariant-loop-rule
invariant-loop-rule g l =
    let missed = λ (rule : AggregateRule). rule_missed (providers_of l.cloud) rule in
    IsBegun g.W.Sink.taken g.W.Sink.failures l.fn.out l.out
    (flat_map missed (map rule_shown l.rules)) (flat_map missed (map rule_shown (drop l.rule-index l.rules)))
