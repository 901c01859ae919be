use Rattle.std.proofs.Common.{◌≡◌, ◌++◌, map}
use Rattle.std.specs.String.{string_bytes}
use Rattle.std.specs.Vec.Iter.{into_iter_items}
use Rattle.ac_run.specs.Outputs.Plain.{given}
use Rattle.ac_run.specs.Outputs.Shown.{parameter_shown}
use Rattle.ac_run.proofs.outputs.plain.push_given.Given as goal

abbrev pub invariant-loop-value : goal.invariant-loop-value
invariant-loop-value l =
    map parameter_shown l.list.items ++ given (l.name ++ l.suffix) (map string_bytes (into_iter_items l.value-iterator))
    ≡ map parameter_shown l.fn.list.items ++ given (l.name ++ l.suffix) (map string_bytes l.fn.values.items)
