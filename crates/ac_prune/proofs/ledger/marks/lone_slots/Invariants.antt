use Rattle.std.proofs.Common.{◌≡◌, map, take}
use Rattle.ac_query.specs.Asked.{slots_of}
use Rattle.ac_query.specs.Shown.Queries.{asked_of}
use Rattle.ac_prune.specs.Marks.{needs_own}
use Rattle.ac_prune.proofs.ledger.marks.lone_slots.Given as goal

abbrev pub invariant-loop-s : goal.invariant-loop-s
invariant-loop-s l = l.lone.items ≡ map (needs_own (asked_of l.query)) (take l.s (slots_of (asked_of l.query)))
