use Rattle.std.proofs.Common.{rules, arith}
use Rattle.std.proofs.lemmas.List.Elements.{Contains-get_or}
use Rattle.ac_prune.proofs.Roots.TreeLemmas.{at_there}
use Rattle.ac_prune.proofs.front.bound_by.Goals as goal
use Rattle.ac_prune.proofs.front.bound_by.Goals.{then-trees-least, else-trees-least}

pub loop-ix-preserved : goal.loop-ix-preserved
loop-ix-preserved c = elim c.if-trees-least.branch [
  | then-trees-least w ↦ rw w.best-is (at_there c.args.front.now _ (Contains-get_or c.args.front.now c.loop-ix.ix-index 0 c.loop-ix-test.true))
  | else-trees-least w ↦ search (arith, rules)
]
