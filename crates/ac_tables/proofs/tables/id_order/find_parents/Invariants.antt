use Rattle.ac_tables.proofs.Common.{◌≡◌, map, take, option_and_then, rank}
use Rattle.ac_tables.proofs.tables.id_order.find_parents.Given as goal

abbrev pub invariant-loop-row : goal.invariant-loop-row
invariant-loop-row l = l.parents.items ≡ map (λ r. option_and_then (rank l.ids.ids.items) r.value.parent) (take l.row-index l.rows)
