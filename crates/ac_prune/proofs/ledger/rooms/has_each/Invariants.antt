use Rattle.std.proofs.Common.{◌≡◌, ◌+◌, map, drop, slice_index}
use Rattle.ac_prune.specs.Left.{ask_pair, has_each}
use Rattle.ac_prune.proofs.ledger.rooms.has_each.Given as goal

abbrev pub invariant-loop-ask : goal.invariant-loop-ask
invariant-loop-ask l = has_each (λ k. slice_index l.rooms (l.row + k)) (map ask_pair (drop l.ask-index l.asks)) ≡ has_each (λ k. slice_index l.rooms (l.row + k)) (map ask_pair l.asks)
