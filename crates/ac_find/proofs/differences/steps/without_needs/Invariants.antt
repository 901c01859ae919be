use Rattle.std.proofs.Common.{◌≡◌, ◌-◌, drop, map}
use Rattle.ac_base.specs.Names.{class_bytes}
use Rattle.ac_query.specs.Shown.Groups.{need_entry}
use Rattle.ac_rules.specs.Together.{amount_of}
use Rattle.ac_find.proofs.differences.steps.without_needs.Given as goal

abbrev pub invariant-loop-need : goal.invariant-loop-need
invariant-loop-need l =
    l.left - amount_of (map need_entry (drop l.need-index l.needs)) (class_bytes l.class) ≡ l.amount - amount_of (map need_entry l.needs) (class_bytes l.class)
