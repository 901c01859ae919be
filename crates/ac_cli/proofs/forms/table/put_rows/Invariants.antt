use Rattle.std.proofs.Common.{◌≡◌, ◌++◌, drop}
use Rattle.std.specs.List.{flat_map}
use Rattle.ac_cli.specs.Forms.{texts_shown}
use Rattle.ac_cli.specs.Forms.Tables.{row_line}
use Rattle.ac_cli.proofs.forms.table.put_rows.Given as goal

-- the rows so far, and those still to come
abbrev pub invariant-loop-row : goal.invariant-loop-row
invariant-loop-row l = l.text.items ++ flat_map (row_line l.widths) (texts_shown (drop l.row-index l.rows)) ≡ l.fn.text.items ++ flat_map (row_line l.widths) (texts_shown l.rows)
