use Rattle.ac_tables.proofs.Common.{◌≡◌, map, take, class_pair, entry_pair, with_used}
use Rattle.ac_tables.proofs.tables.entries.add_entries.Given as goal

abbrev pub invariant-loop-row : goal.invariant-loop-row
invariant-loop-row l = map entry_pair l.entries.items ≡ with_used (map class_pair l.usages) (map class_pair (take l.row-index l.inventories))
