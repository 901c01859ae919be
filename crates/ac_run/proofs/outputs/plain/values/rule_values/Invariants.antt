use Rattle.std.proofs.Common.{◌≡◌, ◌++◌, drop, map}
use Rattle.std.specs.String.{string_bytes}
use Rattle.ac_query.specs.Shown.Groups.{rule_shown}
use Rattle.ac_run.specs.Outputs.Plain.{rule_text}
use Rattle.ac_run.proofs.outputs.plain.values.rule_values.Given as goal

abbrev pub invariant-loop-rule : goal.invariant-loop-rule
invariant-loop-rule l =
    map string_bytes l.values.items ++ map rule_text (map rule_shown (drop l.rule-index l.rules)) ≡ map rule_text (map rule_shown l.rules)
