use Rattle.std.proofs.Common.{◌≡◌, ◌++◌}
use Rattle.ac_query.proofs.reading.values.ids_of.Given as goal

abbrev pub invariant-loop-id : goal.invariant-loop-id
invariant-loop-id l = l.ids.items ++ l.id-iterator ≡ l.fn.set.keys
