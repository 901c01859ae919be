use Rattle.std.proofs.Common.{◌≡◌, ◌++◌, map, take}
use Rattle.ac_prune.specs.Trees.Keys.{key_of}
use Rattle.ac_prune.proofs.trees.by_tree.push_keys.Given as goal

abbrev pub invariant-loop-number : goal.invariant-loop-number
invariant-loop-number l = l.keys.items ≡ l.fn.keys.items ++ map (λ r. key_of r l.place) (take l.number-index l.numbers)
