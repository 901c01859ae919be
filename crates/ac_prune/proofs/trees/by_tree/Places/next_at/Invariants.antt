use Rattle.std.proofs.Common.{◌≡◌, ◌<◌, ◌≤◌, ◌||◌, ℕ, true, take, slice_index}
use Rattle.std.specs.List.{list_any}
use Rattle.ac_prune.specs.Trees.Keys.{key_of, is_there, IsUnder}
use Rattle.ac_prune.proofs.trees.by_tree.Places.next_at.Given as goal

abbrev pub invariant-loop-tree : goal.invariant-loop-tree
invariant-loop-tree l =
    let keys = l.self.keys.items in
    record {
      kept : l.from ≤ l.least;
      within : l.least ≤ l.self.count;
      there : l.least < l.self.count → list_any (λ r. is_there keys (key_of r l.least) || is_there keys (key_of (slice_index l.groves r) l.least)) (take l.tree-index l.trees) ≡ true;
      passed : (r i : ℕ) → is_there (take l.tree-index l.trees) r ≡ true → l.from ≤ i → IsUnder keys (slice_index l.groves r) r i → l.least ≤ i;
    }
