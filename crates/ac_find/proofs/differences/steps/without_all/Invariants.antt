use Rattle.std.proofs.Common.{◌≡◌, ◌-◌, drop}
use Rattle.ac_base.specs.Names.{class_bytes}
use Rattle.ac_query.specs.Asked.{slots_of}
use Rattle.ac_query.specs.Shown.Queries.{asked_of}
use Rattle.ac_find.specs.Service.Differing.{total_of}
use Rattle.ac_find.proofs.differences.steps.without_all.Given as goal

abbrev pub invariant-loop-s : goal.invariant-loop-s
invariant-loop-s l =
    let slots = slots_of (asked_of l.query) in
    l.left - total_of (drop l.s slots) (class_bytes l.class) ≡ l.amount - total_of slots (class_bytes l.class)
