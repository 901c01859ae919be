use Rattle.std.proofs.Common.{◌≡◌, []}
use Rattle.std.specs.List.{fold}
use Rattle.std.specs.Vec.Iter.{into_iter_items}
use Rattle.std.specs.BTreeSet.{insert_key}
use Rattle.ac_query.proofs.reading.values.set_of.Given as goal

abbrev pub invariant-loop-key : goal.invariant-loop-key
invariant-loop-key g l = fold (insert_key g.K.Ord.cmp) l.set.keys (into_iter_items l.key-iterator) ≡ fold (insert_key g.K.Ord.cmp) [] l.fn.list.items
