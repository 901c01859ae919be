use Rattle.std.proofs.Common.{◌≡◌}
use Rattle.std.specs.Prelude.{find}
use Rattle.std.specs.Str.Iter.{split_pattern}
use Rattle.ac_query.specs.Texts.{has_text}
use Rattle.ac_query.proofs.Values.Pieces.{parts_left}
use Rattle.ac_remedies.specs.Queries.Wanted.{forbidden_in, opposed}
use Rattle.ac_remedies.proofs.queries.traits.opposed.Given as goal

abbrev pub invariant-loop-item : goal.invariant-loop-item
invariant-loop-item l =
    (split_pattern l.item-iterator ≡ 44) × (find (has_text (forbidden_in l.fn.list)) (parts_left l.item-iterator) ≡ opposed l.fn.list)
