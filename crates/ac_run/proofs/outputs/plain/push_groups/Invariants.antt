use Rattle.std.proofs.Common.{◌≡◌, ◌++◌, drop, map}
use Rattle.std.specs.List.{flat_map}
use Rattle.ac_query.specs.Shown.Groups.{group_entry}
use Rattle.ac_run.specs.Outputs.Plain.{group_parameters}
use Rattle.ac_run.specs.Outputs.Shown.{parameter_shown}
use Rattle.ac_run.proofs.outputs.plain.push_groups.Given as goal

abbrev pub invariant-loop-group : goal.invariant-loop-group
invariant-loop-group l =
    map parameter_shown l.list.items ++ flat_map group_parameters (map group_entry (drop l.group-index l.groups))
    ≡ map parameter_shown l.fn.list.items ++ flat_map group_parameters (map group_entry l.groups)
