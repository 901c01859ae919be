use Rattle.ac_tables.proofs.Common.{◌≡◌, ◌≤◌, take, bytes_eq, fields_of}
use Rattle.std.proofs.Common.{count_by}
use Rattle.ac_tables.proofs.reader.header.is_double.Given as goal

abbrev pub invariant-loop-place : goal.invariant-loop-place
invariant-loop-place l =
    record {
      counted : l.count ≡ count_by (bytes_eq l.name) (take l.place (fields_of l.header));
      small : l.count ≤ l.place;
    }
