use Rattle.std.proofs.Common.{◌≡◌, ◌++◌, Bor, List, ℕ, map}
use Rattle.std.specs.String.{string_bytes}
use Rattle.ac_query.specs.Shown.Queries.{asked_of}
use Rattle.ac_rules.specs.Placed.{assigned}
use Rattle.ac_report.specs.ListRows.{amount_text, joined_by_commas}
use Rattle.ac_report.specs.Texts.{joined, with_commas}
use Rattle.ac_report.proofs.list_rows.cells.allocation_cell.Given as goal

-- the text, and what is still to come
abbrev pub invariant-loop-class : goal.invariant-loop-class
invariant-loop-class l =
    let shown = λ (classes : List (Bor (List ℕ))). map (amount_text (assigned (asked_of l.query) l.list) l.provider) (map (λ class. class.now) classes) in
    string_bytes l.text ++ joined (with_commas l.later (shown l.class-iterator)) ≡ joined_by_commas (shown l.classes.keys)
