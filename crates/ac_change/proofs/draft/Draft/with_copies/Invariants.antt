use Rattle.std.proofs.Common.{◌≡◌}
use Rattle.ac_change.specs.Changes.{with_copies}
use Rattle.ac_change.specs.Drafts.{all_held}
use Rattle.ac_change.proofs.draft.Draft.with_copies.Given as goal

abbrev pub invariant-loop-turn : goal.invariant-loop-turn
invariant-loop-turn l = all_held l.draft.list.items ≡ with_copies (all_held l.pattern.members.items) l.first l.turn (all_held l.fn.self.list.items)
