use Rattle.ac_prune.specs.Collective.{AreWanted}
use Rattle.ac_prune.specs.Left.Accounts.{providers_in, asked_in}
use Rattle.ac_prune.proofs.collective.Collective.push_group.Given as goal

abbrev pub invariant-loop-name : goal.invariant-loop-name
invariant-loop-name l = AreWanted (providers_in l.choices.ledger.now) (asked_in l.choices.ledger.now) l.self

abbrev pub invariant-loop-list : goal.invariant-loop-list
invariant-loop-list l = AreWanted (providers_in l.choices.ledger.now) (asked_in l.choices.ledger.now) l.self
