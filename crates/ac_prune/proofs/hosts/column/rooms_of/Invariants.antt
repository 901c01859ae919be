use Rattle.std.proofs.Common.{◌≡◌, ◌<◌, ℕ, length, slice_index}
use Rattle.ac_prune.specs.Left.Accounts.{left_in}
use Rattle.ac_prune.proofs.hosts.column.rooms_of.Given as goal

abbrev pub invariant-loop-ix : goal.invariant-loop-ix
invariant-loop-ix l = record {
  count : length l.rooms.items ≡ l.ix;
  rooms : (p : ℕ) → p < l.ix → slice_index l.rooms.items p ≡ left_in l.ledger p l.number;
}
