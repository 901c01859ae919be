use Rattle.ac_tables.proofs.Common.{◌≡◌, drop, position_from, bytes_eq, fields_of}
use Rattle.ac_tables.proofs.reader.header.find_column.Given as goal

abbrev pub invariant-loop-place : goal.invariant-loop-place
invariant-loop-place l = position_from (bytes_eq l.name) l.place (drop l.place (fields_of l.header)) ≡ position_from (bytes_eq l.name) 0 (fields_of l.header)
