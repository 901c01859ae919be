use Rattle.ac_prune.specs.Loads.{MayHost}
use Rattle.ac_prune.proofs.hosts.limit_slots.Given as goal

abbrev pub invariant-loop-s : goal.invariant-loop-s
invariant-loop-s l = MayHost l.choices.ledger.now l.may
