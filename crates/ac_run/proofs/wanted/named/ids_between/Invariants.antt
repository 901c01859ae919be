use Rattle.std.proofs.Common.{◌≡◌}
use Rattle.std.specs.Str.Iter.{split_pattern}
use Rattle.ac_query.proofs.Values.Pieces.{parts_left}
use Rattle.ac_query.specs.Texts.{items_of}
use Rattle.ac_report.specs.Called.{AreCalled, Called, stands_for}
use Rattle.ac_run.specs.Wanted.Named.{ids_each}
use Rattle.ac_run.proofs.EachFound.{found_behind}
use Rattle.ac_run.proofs.wanted.named.ids_between.Given as goal

abbrev pub invariant-loop-item : goal.invariant-loop-item
invariant-loop-item l =
    (split_pattern l.item-iterator ≡ 44)
    × ((called : Called) → AreCalled called l.names → found_behind (stands_for called) l.ids.items (parts_left l.item-iterator) ≡ ids_each called (items_of l.fn.text))
