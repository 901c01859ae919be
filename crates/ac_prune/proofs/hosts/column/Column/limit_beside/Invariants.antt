use Rattle.ac_prune.specs.Loads.{MayHost}
use Rattle.ac_prune.proofs.hosts.column.Column.limit_beside.Given as goal

abbrev pub invariant-loop-large : goal.invariant-loop-large
invariant-loop-large l = MayHost l.self.ledger.now l.may
