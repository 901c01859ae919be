use Rattle.std.proofs.Common.{◌≡◌, ◌++◌, drop, map}
use Rattle.std.specs.String.{string_bytes}
use Rattle.ac_query.specs.Shown.Groups.{need_entry}
use Rattle.ac_run.specs.Outputs.Plain.{need_text}
use Rattle.ac_run.proofs.outputs.plain.values.need_texts.Given as goal

abbrev pub invariant-loop-need : goal.invariant-loop-need
invariant-loop-need l =
    map string_bytes l.texts.items ++ map need_text (map need_entry (drop l.need-index l.needs)) ≡ map need_text (map need_entry l.needs)
