use Rattle.std.proofs.Common.{◌∙◌}
use Rattle.ac_cli.specs.Forms.{texts_shown}
use Rattle.ac_cli.specs.Forms.Tables.{widest}
use Rattle.ac_cli.proofs.Drawn.{next_one}
use Rattle.ac_cli.proofs.forms.table.widths_of.Goals as goal

pub loop-i-preserved : goal.loop-i-preserved
loop-i-preserved c =
    rw (c.in_ok-push.ensures.items, c.widest.ensures)
    (next_one (λ i. widest i (texts_shown c.args.rows.now)) c.args.count c.loop-i.i c.loop-i.widths.items c.loop-i-test.true ∙ c.loop-i.invariant)
