use Rattle.std.proofs.Common.{◌≤◌, ◌-◌, ◌^◌, ◌/◌}
use Rattle.std.specs.Prelude.{min}
use Rattle.std.specs.List.{filter, range_with_len}
use Rattle.ac_cloud.specs.World.{is_available_at}
use Rattle.ac_prune.specs.Left.Accounts.{providers_in, left_in}
use Rattle.ac_prune.specs.Ahead.{load_of}
use Rattle.ac_prune.proofs.ahead.Ahead.pieces_left.Given as goal

abbrev pub invariant-loop : goal.invariant-loop
invariant-loop l = record {
  within : l.from ≤ l.self.trees.count;
  counted : min (load_of (λ p. left_in l.ledger p l.class / l.amount) (filter (λ p. is_available_at (providers_in l.ledger) p l.root) (range_with_len 0 l.from))) (2 ^ 64 - 1) ≤ l.pieces;
}
