use Rattle.std.proofs.Common.{◌≤◌, take}
use Rattle.ac_query.specs.Asked.{slots_of}
use Rattle.ac_prune.specs.Left.Accounts.{asked_in}
use Rattle.ac_prune.specs.Ahead.{load_of}
use Rattle.ac_prune.specs.Loads.Kinds.{asks_alike}
use Rattle.ac_prune.proofs.hosts.column.Column.count_alike.Given as goal

abbrev pub invariant-loop-s : goal.invariant-loop-s
invariant-loop-s l = l.count ≤ load_of (asks_alike l.self l.list l.amount l.lone) (take l.s (slots_of (asked_in l.self.ledger.now)))
