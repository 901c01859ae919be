use Rattle.std.proofs.Common.{◌≡◌, map}
use Rattle.std.specs.Str.Iter.{split_pattern}
use Rattle.ac_base.specs.Names.{class_bytes}
use Rattle.ac_query.proofs.Values.Pieces.{parts_left}
use Rattle.ac_remedies.specs.Queries.Wanted.{first_wrong, wrong_after}
use Rattle.ac_remedies.proofs.queries.resources.first_wrong.Given as goal

abbrev pub invariant-loop-item : goal.invariant-loop-item
invariant-loop-item l =
    (split_pattern l.item-iterator ≡ 44) × (wrong_after (map class_bytes l.classes.keys) (parts_left l.item-iterator) ≡ first_wrong l.fn.value)
