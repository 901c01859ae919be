use Rattle.std.proofs.Common.{◌≡◌, ◌++◌, drop, map}
use Rattle.std.specs.String.{string_bytes}
use Rattle.ac_run.specs.Outputs.Plain.{pair_text}
use Rattle.ac_run.specs.Outputs.Shown.{parameter_shown}
use Rattle.ac_run.proofs.outputs.plain.pair_texts.Given as goal

abbrev pub invariant-loop-pair : goal.invariant-loop-pair
invariant-loop-pair l =
    map string_bytes l.texts.items ++ map pair_text (map parameter_shown (drop l.pair-index l.list)) ≡ map pair_text (map parameter_shown l.list)
