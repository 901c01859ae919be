use Rattle.std.proofs.Common.{◌≡◌, ◌++◌, drop, map}
use Rattle.std.specs.String.{string_bytes}
use Rattle.csv.specs.Records.{fields_of}
use Rattle.ac_cli.specs.Forms.{cell_text}
use Rattle.ac_cli.proofs.forms.texts_of.Given as goal

-- the texts so far, and those still to come
abbrev pub invariant-loop-i : goal.invariant-loop-i
invariant-loop-i l = map string_bytes l.texts.items ++ map cell_text (drop l.i (fields_of l.row)) ≡ map cell_text (fields_of l.row)
