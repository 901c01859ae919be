use Rattle.ac_tables.proofs.Gathered.Header.{absent_fine}
use Rattle.ac_tables.proofs.reader.gather.read_given.Goals as goal

pub returns-in-None-clause-ok : goal.returns-in-None-clause-ok
returns-in-None-clause-ok g c = rw c.in-None.is (absent_fine g.T.Record.TABLE g.T.Record.says (g.T.Record.checks c.args.beside.now))
