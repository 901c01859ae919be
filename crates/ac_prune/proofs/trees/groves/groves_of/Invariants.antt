use Rattle.std.proofs.Common.{take}
use Rattle.ac_prune.specs.Trees.{HaveGroves}
use Rattle.ac_prune.proofs.trees.groves.groves_of.Given as goal

abbrev pub invariant-loop-root : goal.invariant-loop-root
invariant-loop-root l = HaveGroves l.of_roots (take l.root-index l.list) l.groves.items
