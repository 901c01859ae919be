use Rattle.std.proofs.Common.{◌≡◌, ◌++◌, map}
use Rattle.ac_query.specs.Laws.Gathered.{of_suffix}
use Rattle.ac_query.specs.Shown.Groups.{group_entry}
use Rattle.ac_query.specs.Shown.Draft.{entry_shown, plain_shown, suffixed_shown}
use Rattle.ac_query.proofs.query.read.groups_in_order.Given as goal

abbrev pub invariant-loop-suffix : goal.invariant-loop-suffix
invariant-loop-suffix l = map group_entry l.groups.items ++ map of_suffix (map entry_shown l.suffix-iterator) ≡ plain_shown l.fn.plain ++ suffixed_shown l.fn.suffixed
