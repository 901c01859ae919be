use Rattle.std.proofs.Common.{◌∙◌, length, map, string_bytes}
use Rattle.ac_cli.specs.Forms.Tables.{cell_at}
use Rattle.ac_cli.proofs.Drawn.{next_place}
use Rattle.ac_cli.proofs.forms.table.put_row.Goals as goal

pub loop-i-preserved : goal.loop-i-preserved
loop-i-preserved c =
    rw (c.in_ok-put_cell.ensures, c.cell_in.ensures)
    (next_place (cell_at c.args.widths.now (map string_bytes c.args.row.now)) (length c.args.widths.now) c.loop-i.i c.loop-i.text.items c.loop-i-test.true ∙ c.loop-i.invariant)
