use Rattle.std.proofs.Common.{◌≡◌, map}
use Rattle.std.specs.Vec.Iter.{into_iter_items}
use Rattle.ac_query.specs.Pairs.Values.{parted}
use Rattle.ac_query.specs.Shown.{mark_shown, traits_shown}
use Rattle.ac_query.proofs.Values.Marks.{with_marks}
use Rattle.ac_query.proofs.reading.traits.Traits.of.Given as goal

abbrev pub invariant-loop-marked : goal.invariant-loop-marked
invariant-loop-marked l = with_marks (traits_shown l.traits) (map mark_shown (into_iter_items l.marked-iterator)) ≡ parted (map mark_shown l.fn.list.items)
