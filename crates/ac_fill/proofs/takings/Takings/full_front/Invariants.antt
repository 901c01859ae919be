use Rattle.ac_fill.proofs.takings.Takings.full_front.Given as goal

abbrev pub invariant-loop-s : goal.invariant-loop-s
invariant-loop-s l = Unit {0}
