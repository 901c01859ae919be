use Rattle.std.proofs.Common.{◌≡◌, ◌<◌, ℕ, true, slice_index, slice_index_or}
use Rattle.std.specs.Global.{Vec}
use Rattle.ac_prune.specs.Trees.Keys.{key_of, is_there}
use Rattle.ac_prune.proofs.trees.by_tree.Places.by_grove.Given as goal

abbrev pub invariant-loop-place : goal.invariant-loop-place
invariant-loop-place l = (i g : ℕ) → i < l.place → ((d : Vec ℕ) → is_there (slice_index_or l.of_providers (slice_index l.choices i) d).items g ≡ true)
    → is_there l.keys.items (key_of g i) ≡ true
