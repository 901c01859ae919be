use Rattle.std.proofs.Common.{◌≤◌, take}
use Rattle.ac_query.specs.Asked.{slots_of}
use Rattle.ac_prune.specs.Left.Accounts.{asked_in}
use Rattle.ac_prune.specs.Ahead.{load_of}
use Rattle.ac_prune.specs.Loads.Columns.{is_lone}
use Rattle.ac_prune.proofs.hosts.column.Column.count_lone.Given as goal

abbrev pub invariant-loop-s : goal.invariant-loop-s
invariant-loop-s l = l.count ≤ load_of (is_lone l.self l.amount) (take l.s (slots_of (asked_in l.self.ledger.now)))
