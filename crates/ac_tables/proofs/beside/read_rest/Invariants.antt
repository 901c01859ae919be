use Rattle.ac_tables.proofs.Common.{◌≡◌, ◌+◌, ◌++◌, ◌≤◌, length, map, fields_of, IsReading, rows_left}
use Rattle.ac_tables.specs.Beside.{first_bad}
use Rattle.ac_tables.specs.Drain.{most_bytes}
use Rattle.ac_tables.proofs.beside.read_rest.Given as goal

abbrev pub invariant-loop-row : goal.invariant-loop-row
invariant-loop-row g l =
    record {
      reading : IsReading l.reader;
      said : map g.T.BesideRecord.shown l.all.items ++ map (g.T.BesideRecord.says (fields_of l.header)) (rows_left l.reader)
          ≡ map (g.T.BesideRecord.says (fields_of l.header)) (rows_left l.fn.reader);
      bad : first_bad (g.T.BesideRecord.checks (fields_of l.header)) l.number (rows_left l.reader)
          ≡ first_bad (g.T.BesideRecord.checks (fields_of l.header)) 2 (rows_left l.fn.reader);
      count : length l.all.items + length (rows_left l.reader) ≤ most_bytes;
      few : l.number + length (rows_left l.reader) ≤ 2 + most_bytes;
    }

abbrev pub decreases-loop-row : goal.decreases-loop-row
decreases-loop-row g l = length (rows_left l.reader)
