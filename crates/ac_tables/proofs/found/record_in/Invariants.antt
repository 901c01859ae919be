use Rattle.ac_tables.proofs.Common.{◌≡◌, ◌-◌, IsReading, records_of, rows_left}
use Rattle.std.specs.List.{slice_get}
use Rattle.ac_tables.proofs.found.record_in.Given as goal

abbrev pub invariant-loop-turn : goal.invariant-loop-turn
invariant-loop-turn l =
    record {
      reading : IsReading l.reader;
      wanted : slice_get (rows_left l.reader) (l.number - l._turn) ≡ slice_get (records_of l.text) (l.number - 1);
    }
