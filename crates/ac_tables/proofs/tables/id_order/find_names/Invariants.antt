use Rattle.ac_tables.proofs.Common.{◌≡◌, ℕ, map, take, name_bytes, lists_of, TableRow, Named}
use Rattle.ac_tables.proofs.tables.id_order.find_names.Given as goal

abbrev pub invariant-loop-row : goal.invariant-loop-row
invariant-loop-row l = lists_of l.names ≡ map (λ (r : TableRow ℕ Named). name_bytes r.value.name) (take l.row-index l.rows)
