use Rattle.std.proofs.Common.{◌≡◌, ◌++◌, drop, map}
use Rattle.std.specs.String.{string_bytes}
use Rattle.ac_query.specs.Shown.Groups.{any_of_shown}
use Rattle.ac_run.specs.Outputs.Plain.{choice_text}
use Rattle.ac_run.proofs.outputs.plain.values.push_choices.Given as goal

abbrev pub invariant-loop-list : goal.invariant-loop-list
invariant-loop-list l =
    map string_bytes l.values.items ++ map choice_text (map any_of_shown (drop l.list-index l.lists))
    ≡ map string_bytes l.fn.values.items ++ map choice_text (map any_of_shown l.lists)
