use Rattle.std.proofs.Common.{◌≡◌, ℕ, Bool, List, map, not, take}
use Rattle.std.specs.List.{filter}
use Rattle.ac_query.specs.declared.group.AggregateRule.{AggregateRule}
use Rattle.ac_query.proofs.query.read.asking_of.Given as goal

abbrev of_rule : AggregateRule → Bool × List ℕ
of_rule rule = (rule.forbids, rule.ids.items)

abbrev pub invariant-loop-rule : goal.invariant-loop-rule
invariant-loop-rule l = map of_rule l.asking.items ≡ filter (λ rule. not rule.0) (map of_rule (take l.rule-index l.rules))
