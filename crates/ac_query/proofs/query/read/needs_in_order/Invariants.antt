use Rattle.std.proofs.Common.{◌≡◌, ◌++◌, map}
use Rattle.ac_query.specs.Shown.{need_shown, needs_shown}
use Rattle.ac_query.specs.Shown.Groups.{need_entry}
use Rattle.ac_query.proofs.query.read.needs_in_order.Given as goal

abbrev pub invariant-loop-class : goal.invariant-loop-class
invariant-loop-class l = map need_entry l.list.items ++ map need_shown l.class-iterator ≡ needs_shown l.fn.needs
