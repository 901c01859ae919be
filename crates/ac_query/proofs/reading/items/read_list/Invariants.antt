use Rattle.std.proofs.Common.{◌≡◌, map}
use Rattle.std.specs.Str.Iter.{split_pattern}
use Rattle.ac_query.specs.Pairs.Values.{list_value}
use Rattle.ac_query.proofs.Values.Items.{values_behind}
use Rattle.ac_query.proofs.Values.Pieces.{parts_left}
use Rattle.ac_query.proofs.reading.items.read_list.Given as goal

abbrev pub invariant-loop-item : goal.invariant-loop-item
invariant-loop-item g l =
    (split_pattern l.item-iterator ≡ 44)
    × (values_behind g.T.Item.value (map g.T.Item.shown l.list.items) (parts_left l.item-iterator) ≡ list_value g.T.Item.value l.fn.text)
