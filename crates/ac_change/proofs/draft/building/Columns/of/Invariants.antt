use Rattle.std.proofs.Common.{◌≡◌, ◌++◌, List}
use Rattle.std.specs.Vec.Iter.{into_iter_items}
use Rattle.ac_change.specs.Columns.{AreColumns}
use Rattle.ac_change.specs.declared.draft.held.Held.{Held}
use Rattle.ac_change.proofs.draft.building.Columns.of.Given as goal

abbrev pub invariant-loop-held : goal.invariant-loop-held
invariant-loop-held l = (before : List Held) × (before ++ into_iter_items l.held-iterator ≡ l.fn.list.items) × AreColumns before l.columns
