use Rattle.std.proofs.Common.{◌≡◌, ◌++◌, ◌-◌, map}
use Rattle.std.specs.List.{range_with_len}
use Rattle.ac_cli.specs.Forms.{texts_shown}
use Rattle.ac_cli.specs.Forms.Tables.{widest, widths_of}
use Rattle.ac_cli.proofs.forms.table.widths_of.Given as goal

-- those so far, and those still to come
abbrev pub invariant-loop-i : goal.invariant-loop-i
invariant-loop-i l = l.widths.items ++ map (λ i. widest i (texts_shown l.rows)) (range_with_len l.i (l.count - l.i)) ≡ widths_of l.count (texts_shown l.rows)
