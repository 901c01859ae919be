use Rattle.std.proofs.Common.{◌≡◌, drop}
use Rattle.csv.specs.Records.{fields_of}
use Rattle.ac_report.specs.Called.{AreCalled, Called, stands_for}
use Rattle.ac_run.specs.Wanted.Named.{ids_each}
use Rattle.ac_run.proofs.EachFound.{found_behind}
use Rattle.ac_run.proofs.wanted.named.token.ids_of.Given as goal

abbrev pub invariant-loop-field : goal.invariant-loop-field
invariant-loop-field l =
    (l.field-iterator.row.now ≡ l.row)
    × ((called : Called) → AreCalled called l.names
    → found_behind (stands_for called) l.ids.items (drop l.field-iterator.at (fields_of l.row)) ≡ ids_each called (fields_of l.fn.row))
