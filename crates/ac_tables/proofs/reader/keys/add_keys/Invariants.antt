use Rattle.ac_tables.proofs.Common.{map, take, TableRow}
use Rattle.std.specs.List.{AllZip}
use Rattle.ac_tables.proofs.reader.keys.add_keys.Given as goal

abbrev pub invariant-loop-row : goal.invariant-loop-row
invariant-loop-row g l = AllZip g.K.Clone.is_clone (map (λ (r : TableRow _ _). r.key) (take l.row-index l.rows)) l.keys.items
