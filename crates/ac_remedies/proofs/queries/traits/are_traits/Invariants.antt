use Rattle.std.proofs.Common.{◌≡◌}
use Rattle.std.specs.List.{list_all}
use Rattle.std.specs.Str.Iter.{split_pattern}
use Rattle.ac_query.proofs.Values.Pieces.{parts_left}
use Rattle.ac_remedies.specs.Queries.Wanted.{are_traits, is_marked}
use Rattle.ac_remedies.proofs.queries.traits.are_traits.Given as goal

abbrev pub invariant-loop-item : goal.invariant-loop-item
invariant-loop-item l = (split_pattern l.item-iterator ≡ 44) × (list_all is_marked (parts_left l.item-iterator) ≡ are_traits l.fn.list)
