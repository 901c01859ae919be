use Rattle.std.proofs.Common.{◌≡◌, ◌+◌, ℕ, drop, slice_index}
use Rattle.ac_prune.specs.Left.{wanted_at}
use Rattle.ac_prune.proofs.ledger.rooms.take.Given as goal

abbrev pub invariant-loop-ask : goal.invariant-loop-ask
invariant-loop-ask l = (i : ℕ) → slice_index l.rooms i + wanted_at l.row l.asks i ≡ slice_index l.fn.rooms i + wanted_at l.row (drop l.ask-index l.asks) i
