use Rattle.std.proofs.Common.{◌≡◌, ◌<◌, ◌/◌, ℕ, slice_index}
use Rattle.ac_prune.specs.Loads.Kinds.{piece}
use Rattle.ac_prune.proofs.hosts.column.Column.pieces_among.Given as goal

abbrev pub invariant-loop-ix : goal.invariant-loop-ix
invariant-loop-ix l = (j : ℕ) → j < l.ix-index → slice_index l.pieces.items (slice_index l.choices j) ≡ piece l.lone (slice_index l.self.rooms.items (slice_index l.choices j) / l.amount)
