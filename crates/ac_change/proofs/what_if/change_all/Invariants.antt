use Rattle.std.proofs.Common.{◌≡◌, drop, map}
use Rattle.ac_change.specs.Changes.{all_changed}
use Rattle.ac_change.specs.Drafts.{all_held}
use Rattle.ac_change.specs.Shown.{line_shown}
use Rattle.ac_change.proofs.what_if.change_all.Given as goal

abbrev pub invariant-loop-line : goal.invariant-loop-line
invariant-loop-line l =
    all_changed (all_held l.draft.list.items) (map line_shown (drop l.line-index l.changes)) ≡ all_changed (all_held l.fn.draft.list.items) (map line_shown l.changes)
