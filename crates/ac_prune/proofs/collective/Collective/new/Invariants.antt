use Rattle.ac_prune.specs.Collective.{AreWanted}
use Rattle.ac_prune.specs.Left.Accounts.{providers_in, asked_in}
use Rattle.ac_prune.proofs.collective.Collective.new.Given as goal

abbrev pub invariant-loop-group : goal.invariant-loop-group
invariant-loop-group l = AreWanted (providers_in l.choices.ledger.now) (asked_in l.choices.ledger.now) l.collective
