use Rattle.std.proofs.Common.{◌≤◌, ◌+◌, drop, map}
use Rattle.ac_prune.specs.Left.{ask_pair, wanted}
use Rattle.ac_prune.specs.Ahead.{load_of}
use Rattle.ac_prune.specs.Loads.Mixed.{mixed_weight}
use Rattle.ac_prune.proofs.hosts.mixed.weigh_all.Given as goal

abbrev pub invariant-loop-list : goal.invariant-loop-list
invariant-loop-list l =
    l.total + load_of (λ a. mixed_weight l.small l.large l.times (wanted a l.class)) (map (λ v. map ask_pair v.items) (drop l.list-index l.asks))
    ≤ load_of (λ a. mixed_weight l.small l.large l.times (wanted a l.class)) (map (λ v. map ask_pair v.items) l.asks)
