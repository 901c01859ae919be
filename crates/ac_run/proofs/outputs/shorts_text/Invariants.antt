use Rattle.std.proofs.Common.{◌≡◌, ◌++◌, drop, map}
use Rattle.std.specs.List.{flat_map}
use Rattle.std.specs.String.{string_bytes}
use Rattle.ac_fill.specs.Found.{short_entry}
use Rattle.ac_run.specs.Outputs.{later_short, shorts_text}
use Rattle.ac_run.proofs.outputs.shorts_text.Given as goal

-- the text, and what is still to come
abbrev pub invariant-loop-short : goal.invariant-loop-short
invariant-loop-short l =
    string_bytes l.text ++ flat_map later_short (map short_entry (drop l.short-index l.later)) ≡ shorts_text (map short_entry l.shorts)
