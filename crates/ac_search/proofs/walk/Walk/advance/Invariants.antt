use Rattle.ac_search.proofs.Steps.EndLemmas.{Comes, remaining}
use Rattle.ac_search.proofs.walk.Walk.advance.Given as goal

abbrev pub invariant-steps : goal.invariant-steps
invariant-steps l = Comes l.fn.self l.self

abbrev pub decreases-steps : goal.decreases-steps
decreases-steps l = remaining l.self
