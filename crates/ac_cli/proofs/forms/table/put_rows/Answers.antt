use Rattle.std.proofs.Common.{◌∙◌, arith, map, string_bytes}
use Rattle.ac_cli.specs.Forms.Tables.{row_line}
use Rattle.ac_cli.proofs.Drawn.{next_item}
use Rattle.ac_cli.proofs.forms.table.put_rows.Goals as goal

pub loop-row-preserved : goal.loop-row-preserved
loop-row-preserved c =
    rw (c.in_ok-put_row.ensures, c.deref.ensures.value)
    (next_item (row_line c.args.widths.now) (λ row. map string_bytes row.items) c.args.rows.now c.loop-row.row-index c.row-item.result c.loop-row.text.items
    c.row-item.is (omega arith) ∙ c.loop-row.invariant)
