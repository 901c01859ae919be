use Rattle.ac_tables.proofs.Common.{◌≡◌, length, fields_of, IsReading, rows_left, IsReadSoFar}
use Rattle.ac_tables.proofs.reader.gather.read_rows.Given as goal

abbrev pub invariant-loop-reader : goal.invariant-loop-reader
invariant-loop-reader g l =
    record {
      reading : IsReading l.reader;
      placed : l.columns ≡ g.T.Record.places (fields_of l.header);
      so_far : IsReadSoFar (g.T.Record.says (fields_of l.header)) (g.T.Record.alone l.beside (fields_of l.header)) (g.T.Record.shown l.beside) (g.T.Record.count l.beside) g.T.Record.MOST (rows_left l.fn.reader) (rows_left l.reader) l.number l.rows.items;
    }

abbrev pub decreases-loop-reader : goal.decreases-loop-reader
decreases-loop-reader g l = length (rows_left l.reader)
