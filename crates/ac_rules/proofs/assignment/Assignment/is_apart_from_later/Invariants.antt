use Rattle.std.proofs.Common.{◌≡◌, ◌+◌, drop, slice_index}
use Rattle.std.specs.List.{list_all}
use Rattle.ac_query.specs.Asked.{slots_of}
use Rattle.ac_query.specs.Shown.Queries.{asked_of}
use Rattle.ac_rules.specs.Placed.{Placed, placed, placed_at}
use Rattle.ac_rules.specs.Together.{are_apart}
use Rattle.ac_rules.proofs.assignment.Assignment.is_apart_from_later.Given as goal

abbrev pub invariant-loop-t : goal.invariant-loop-t
invariant-loop-t l =
    let slots = slots_of (asked_of l.self.query.now) in
    let one = λ (y : Placed). are_apart (placed_at (asked_of l.self.query.now) l.s (slice_index l.self.list.now l.s)) y in
    list_all one (placed (drop l.t slots) (drop l.t l.self.list.now)) ≡ list_all one (placed (drop (l.s + 1) slots) (drop (l.s + 1) l.self.list.now))
