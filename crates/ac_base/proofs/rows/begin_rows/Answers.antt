use Rattle.std.proofs.Common.{[]}
use Rattle.ac_base.proofs.rows.begin_rows.Goals as goal

pub returns : goal.returns
returns c = c.in_ok-write_row.ensures [] c.no_rows-rows.ensures
