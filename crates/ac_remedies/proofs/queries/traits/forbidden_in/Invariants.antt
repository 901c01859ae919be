use Rattle.std.proofs.Common.{◌≡◌, codes, fold, map}
use Rattle.std.specs.BTreeSet.{insert_key}
use Rattle.std.specs.List.{filter_map}
use Rattle.std.specs.Str.Iter.{split_pattern}
use Rattle.ac_base.specs.Sorted.{rising}
use Rattle.ac_base.specs.Texts.{text_cmp}
use Rattle.ac_query.specs.Texts.{behind}
use Rattle.ac_query.proofs.Values.Pieces.{parts_left}
use Rattle.ac_remedies.specs.Queries.Wanted.{forbidden_in}
use Rattle.ac_remedies.proofs.queries.traits.forbidden_in.Given as goal

abbrev pub invariant-loop-item : goal.invariant-loop-item
invariant-loop-item l =
    (split_pattern l.item-iterator ≡ 44)
    × (fold (insert_key text_cmp) (map (λ name. name.now) l.names.keys) (filter_map (behind (codes "!")) (parts_left l.item-iterator))
    ≡ rising text_cmp (forbidden_in l.fn.list))
