use Rattle.std.proofs.Common.{◌≡◌, length}
use Rattle.ac_rules.specs.Shown.Lists.{lists_left}
use Rattle.ac_rules.specs.Shown.Plain.{left_of}
use Rattle.ac_rules.proofs.plain.Plain.step.Given as goal

abbrev pub invariant-loop-self : goal.invariant-loop-self
invariant-loop-self l = left_of l.self ≡ left_of l.fn.self

abbrev pub decreases-loop-self : goal.decreases-loop-self
decreases-loop-self l = length (lists_left l.self.lists)
