use Rattle.std.proofs.Common.{◌≡◌, drop}
use Rattle.ac_query.specs.Asked.{slots_of}
use Rattle.ac_query.specs.Shown.Queries.{asked_of}
use Rattle.ac_rules.specs.Placed.{placed}
use Rattle.ac_rules.specs.Together.{all_apart}
use Rattle.ac_rules.proofs.assignment.Assignment.all_apart.Given as goal

abbrev pub invariant-loop-s : goal.invariant-loop-s
invariant-loop-s l =
    let slots = slots_of (asked_of l.self.query.now) in
    all_apart (placed (drop l.s slots) (drop l.s l.self.list.now)) ≡ all_apart (placed slots l.self.list.now)
