use Rattle.std.proofs.Common.{◌≡◌, ◌++◌, drop, map}
use Rattle.std.specs.List.{flat_map}
use Rattle.ac_run.specs.Outputs.QueryRows.{parameter_line}
use Rattle.ac_run.specs.Outputs.Shown.{parameter_shown}
use Rattle.ac_run.proofs.outputs.query_rows.push_lines.Given as goal

abbrev pub invariant-loop-pair : goal.invariant-loop-pair
invariant-loop-pair l =
    l.text.items ++ flat_map parameter_line (map parameter_shown (drop l.pair-index l.list))
    ≡ l.fn.text.items ++ flat_map parameter_line (map parameter_shown l.list)
