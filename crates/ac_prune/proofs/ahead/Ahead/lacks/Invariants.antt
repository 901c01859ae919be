use Rattle.ac_prune.proofs.ahead.Ahead.lacks.Given as goal

abbrev pub invariant-loop-asks : goal.invariant-loop-asks
invariant-loop-asks l = Unit {0}
