use Rattle.std.proofs.Common.{◌≡◌, ◌<◌, ◌≤◌, ℕ, true, take}
use Rattle.std.specs.List.{list_any}
use Rattle.ac_prune.specs.Trees.Keys.{key_of, is_there}
use Rattle.ac_prune.proofs.trees.by_tree.Places.next_among.Given as goal

abbrev pub invariant-loop-grove : goal.invariant-loop-grove
invariant-loop-grove l =
    let keys = l.self.keys.items in
    record {
      kept : l.from ≤ l.least;
      within : l.least ≤ l.self.count;
      there : l.least < l.self.count → list_any (λ g. is_there keys (key_of g l.least)) (take l.grove-index l.groves) ≡ true;
      passed : (i : ℕ) → l.from ≤ i → list_any (λ g. is_there keys (key_of g i)) (take l.grove-index l.groves) ≡ true → l.least ≤ i;
    }
