use Rattle.std.proofs.Common.{◌≡◌, map}
use Rattle.std.specs.Vec.Iter.{into_iter_items}
use Rattle.ac_query.specs.Pairs.Values.{by_class}
use Rattle.ac_query.specs.Shown.{needs_shown}
use Rattle.ac_query.specs.Shown.Groups.{need_entry}
use Rattle.ac_query.proofs.Values.NeedItems.{with_new}
use Rattle.ac_query.proofs.reading.values.by_class.Given as goal

abbrev pub invariant-loop-need : goal.invariant-loop-need
invariant-loop-need l = with_new (needs_shown l.amounts) (map need_entry (into_iter_items l.need-iterator)) ≡ by_class (map need_entry l.fn.needs.items)
