use Rattle.std.proofs.Common.{◌≤◌, ◌+◌, drop, map, nat_le}
use Rattle.std.specs.Prelude.{if◌then◌else◌}
use Rattle.ac_prune.specs.Left.{ask_pair, wanted}
use Rattle.ac_prune.specs.Ahead.{load_of}
use Rattle.ac_prune.proofs.hosts.column.count_asking.Given as goal

abbrev pub invariant-loop-list : goal.invariant-loop-list
invariant-loop-list l = l.count + load_of (λ a. if nat_le l.amount (wanted a l.class) then 1 else 0) (map (λ v. map ask_pair v.items) (drop l.list-index l.asks)) ≤ load_of (λ a. if nat_le l.amount (wanted a l.class) then 1 else 0) (map (λ v. map ask_pair v.items) l.asks)
