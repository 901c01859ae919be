use Rattle.std.proofs.Common.{◌≡◌, map, take}
use Rattle.ac_base.specs.Names.{class_bytes}
use Rattle.ac_query.specs.Asked.{slots_of}
use Rattle.ac_query.specs.Shown.Queries.{asked_of}
use Rattle.ac_prune.specs.Left.{ask_pair, numbered}
use Rattle.ac_prune.proofs.ledger.rooms.all_asks.Given as goal

abbrev pub invariant-loop-s : goal.invariant-loop-s
invariant-loop-s l =
    map (λ asks. map ask_pair asks.items) l.all.items
    ≡ map (λ slot. map (numbered (map (λ c. class_bytes c.now) l.classes)) slot.needs) (take l.s (slots_of (asked_of l.query)))
