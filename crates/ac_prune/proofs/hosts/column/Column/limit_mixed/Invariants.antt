use Rattle.ac_prune.specs.Loads.{MayHost}
use Rattle.ac_prune.proofs.hosts.column.Column.limit_mixed.Given as goal

abbrev pub invariant-loop-small : goal.invariant-loop-small
invariant-loop-small l = MayHost l.self.ledger.now l.may
