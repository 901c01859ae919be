use Rattle.std.proofs.Common.{◌≡◌, ◌++◌, drop, map}
use Rattle.std.specs.String.{string_bytes}
use Rattle.ac_cloud.specs.Cloud.Entries.{entry_pair}
use Rattle.ac_report.specs.ListRows.{holding_text, joined_by_commas}
use Rattle.ac_report.specs.Texts.{joined, with_commas}
use Rattle.ac_report.proofs.list_rows.cells.inventory_cell.Given as goal

-- the text, and what is still to come
abbrev pub invariant-loop-entry : goal.invariant-loop-entry
invariant-loop-entry l =
    string_bytes l.text ++ joined (with_commas l.later (map holding_text (map entry_pair (drop l.entry-index l.entries))))
    ≡ joined_by_commas (map holding_text (map entry_pair l.entries))
