use Rattle.std.proofs.Common.{◌≤◌, ◌+◌, drop, map}
use Rattle.ac_prune.specs.Left.{ask_pair, wanted}
use Rattle.ac_prune.specs.Ahead.{load_of}
use Rattle.ac_prune.proofs.hosts.column.wanted_of.Given as goal

abbrev pub invariant-loop-list : goal.invariant-loop-list
invariant-loop-list l = l.total + load_of (λ a. wanted a l.class) (map (λ v. map ask_pair v.items) (drop l.list-index l.asks)) ≤ load_of (λ a. wanted a l.class) (map (λ v. map ask_pair v.items) l.asks)
