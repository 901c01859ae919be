use Rattle.std.proofs.Common.{◌≡◌, drop, max}
use Rattle.ac_cli.specs.Forms.{texts_shown}
use Rattle.ac_cli.specs.Forms.Tables.{widest}
use Rattle.ac_cli.proofs.forms.table.widest.Given as goal

-- the most so far, and what is still to come
abbrev pub invariant-loop-row : goal.invariant-loop-row
invariant-loop-row l = max l.most (widest l.i (texts_shown (drop l.row-index l.rows))) ≡ widest l.i (texts_shown l.rows)
