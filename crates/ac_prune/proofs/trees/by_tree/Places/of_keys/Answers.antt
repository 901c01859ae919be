use Rattle.std.proofs.Common.{◌∙◌, sym}
use Rattle.std.specs.Prelude.{◌==◌}
use Rattle.std.proofs.lemmas.List.Sorted.{IsNonDecreasingBy-from_sort, list_any-IsPermutation}
use Rattle.ac_prune.proofs.trees.by_tree.Places.of_keys.Goals as goal

pub invariant_of-result-clause-rising : goal.invariant_of-result-clause-rising
invariant_of-result-clause-rising c = λ i j h k. IsNonDecreasingBy-from_sort (λ x. x) c.sort_unstable.new.self.items c.sort_unstable.ensures.sorted i j 0 h k

pub returns-clause-kept : goal.returns-clause-kept
returns-clause-kept c = λ x h. sym (list_any-IsPermutation (λ y. y == x) c.args.keys.items c.sort_unstable.new.self.items c.sort_unstable.ensures.permutation) ∙ h
