use Rattle.std.proofs.Common.{◌≡◌, ◌++◌, drop, map}
use Rattle.std.specs.String.{string_bytes}
use Rattle.ac_base.specs.Names.{trait_bytes}
use Rattle.ac_report.specs.ListRows.{joined_by_commas}
use Rattle.ac_report.specs.Texts.{joined, with_commas}
use Rattle.ac_report.proofs.list_rows.cells.traits_cell.Given as goal

-- the text, and what is still to come
abbrev pub invariant-loop-name : goal.invariant-loop-name
invariant-loop-name l =
    string_bytes l.text ++ joined (with_commas l.later (map trait_bytes (drop l.name-index l.traits))) ≡ joined_by_commas (map trait_bytes l.traits)
