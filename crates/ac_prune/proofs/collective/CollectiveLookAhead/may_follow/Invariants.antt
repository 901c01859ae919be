use Rattle.ac_prune.proofs.collective.CollectiveLookAhead.may_follow.Given as goal

abbrev pub invariant-loop-wanted : goal.invariant-loop-wanted
invariant-loop-wanted l = Unit {0}
