use Rattle.ac_prune.specs.Loads.{MayHost}
use Rattle.ac_prune.proofs.hosts.limit_classes.Given as goal

abbrev pub invariant-loop-number : goal.invariant-loop-number
invariant-loop-number l = MayHost l.ledger l.may
