use Rattle.std.proofs.Common.{◌≤◌, ◌+◌, drop, map}
use Rattle.ac_prune.specs.Left.{ask_pair, wanted}
use Rattle.ac_prune.proofs.ledger.rooms.wanted.Given as goal

abbrev pub invariant-loop-ask : goal.invariant-loop-ask
invariant-loop-ask l = l.total + wanted (map ask_pair (drop l.ask-index l.asks)) l.class ≤ wanted (map ask_pair l.asks) l.class
