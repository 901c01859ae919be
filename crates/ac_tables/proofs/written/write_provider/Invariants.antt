use Rattle.std.proofs.Common.{ℕ, ◌++◌, List, map, take}
use Rattle.std.specs.List.{filter}
use Rattle.ac_cloud.specs.Cloud.Entries.{entry_pair}
use Rattle.ac_base.specs.Writing.Rows.{HasRows}
use Rattle.ac_tables.specs.UsageRows.{is_used, usage_row}
use Rattle.ac_tables.proofs.written.write_provider.Given as goal

abbrev pub invariant-loop-entry : goal.invariant-loop-entry
invariant-loop-entry l =
    (before : List (List (List ℕ))) → HasRows l.fn.rows before
    → HasRows l.rows (before ++ map (usage_row l.id) (filter is_used (take l.entry-index (map entry_pair l.entries))))
