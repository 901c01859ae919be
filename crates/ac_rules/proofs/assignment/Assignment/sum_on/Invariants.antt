use Rattle.std.proofs.Common.{◌≡◌, ◌≤◌, ◌+◌, ◌*◌, ◌^◌, length, drop}
use Rattle.ac_base.specs.Names.{class_bytes}
use Rattle.ac_query.specs.Asked.{slots_of}
use Rattle.ac_query.specs.Shown.Queries.{asked_of}
use Rattle.ac_rules.specs.Placed.{placed}
use Rattle.ac_rules.specs.Together.{sum_on}
use Rattle.ac_rules.proofs.assignment.Assignment.sum_on.Given as goal

abbrev pub invariant-loop-s : goal.invariant-loop-s
invariant-loop-s l =
    let slots = slots_of (asked_of l.self.query.now) in
    let class = class_bytes l.class in
    record {
      within : l.s ≤ length l.self.list.now;
      rest : l.sum + sum_on (placed (drop l.s slots) (drop l.s l.self.list.now)) l.ix class ≡ sum_on (placed slots l.self.list.now) l.ix class;
      small : l.sum ≤ l.s * 2 ^ 96;
    }
