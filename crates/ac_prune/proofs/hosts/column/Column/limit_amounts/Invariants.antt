use Rattle.ac_prune.specs.Loads.{MayHost}
use Rattle.ac_prune.proofs.hosts.column.Column.limit_amounts.Given as goal

abbrev pub invariant-loop-amount : goal.invariant-loop-amount
invariant-loop-amount l = MayHost l.self.ledger.now l.may
