use Rattle.ac_tables.proofs.Common.{◌≡◌, [], map, take, fields_of}
use Rattle.csv.specs.Records.{partial_of}
use Rattle.ac_tables.specs.Tables.Names.{columns_needed, name_of}
use Rattle.ac_tables.proofs.found.absent_record.Given as goal

abbrev pub invariant-loop-column : goal.invariant-loop-column
invariant-loop-column l =
    record {
      names : fields_of l.header ≡ map name_of (take l.column-index (columns_needed l.fn.table));
      whole : partial_of l.header ≡ [];
    }
