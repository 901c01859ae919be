use Rattle.std.proofs.Common.{drop, map}
use Rattle.std.specs.List.{flat_map}
use Rattle.ac_query.specs.Shown.Groups.{rule_shown}
use Rattle.ac_report.specs.Findings.Explanation.SlotRules.{rule_asked}
use Rattle.ac_report.proofs.FoundTexts.Begun.{IsBegun}
use Rattle.ac_report.proofs.findings.explanation.slot_rules.push_aggregates.Given as goal

abbrev pub invariant-loop-rule : goal.invariant-loop-rule
invariant-loop-rule g l = IsBegun g.W.Sink.taken g.W.Sink.failures l.fn.out l.out
    (flat_map rule_asked (map rule_shown l.rules)) (flat_map rule_asked (map rule_shown (drop l.rule-index l.rules)))
