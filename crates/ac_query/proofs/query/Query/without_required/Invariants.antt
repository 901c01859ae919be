use Rattle.std.proofs.Common.{◌≡◌, ◌++◌, map}
use Rattle.std.specs.Vec.Iter.{into_iter_items}
use Rattle.ac_query.specs.Shown.Groups.{group_entry}
use Rattle.ac_query.specs.Without.{relaxed}
use Rattle.ac_query.proofs.query.Query.without_required.Given as goal

abbrev pub invariant-loop-group : goal.invariant-loop-group
invariant-loop-group l = map group_entry l.list.items ++ map relaxed (map group_entry (into_iter_items l.group-iterator)) ≡ map relaxed (map group_entry l.fn.self.groups.items)
