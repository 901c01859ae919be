use Rattle.std.proofs.Common.{◌≡◌, [], take, if◌then◌else◌}
use Rattle.std.specs.List.{flat_map}
use Rattle.ac_query.specs.declared.group.AggregateRule.{AggregateRule}
use Rattle.ac_query.proofs.query.read.forbidden_by.Given as goal

abbrev pub invariant-loop-rule : goal.invariant-loop-rule
invariant-loop-rule l = l.ids.items ≡ flat_map (λ (rule : AggregateRule). if rule.forbids then rule.ids.items else []) (take l.rule-index l.rules)
