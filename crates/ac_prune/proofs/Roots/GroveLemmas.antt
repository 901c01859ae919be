-- Choices that are available in a tree of some provider, by their groves.
use Rattle.std.proofs.Common.{◌≡◌, ℕ, ◌<◌, true, List, length, slice_index, slice_index_or, refl}
use Rattle.std.specs.Prelude.{◌==◌}
use Rattle.std.specs.List.{All}
use Rattle.std.specs.Global.{Vec}
use Rattle.std.proofs.lemmas.Bool.{eq-eqb}
use Rattle.std.proofs.lemmas.List.Folds.{list_any_at}
use Rattle.ac_cloud.specs.World.{Provider}
use Rattle.ac_prune.specs.Trees.{HaveAllGroves, IsByGrove, MeetInGroves}
use Rattle.ac_prune.specs.Trees.Keys.{key_of, is_there}
use Rattle.ac_prune.specs.declared.trees.by_tree.Places.{Places}
use Rattle.ac_prune.proofs.Roots.TreeLemmas.{anchor_there, any_there}

pub meet : (all : List Provider) (of_roots : List ℕ) (lists : List (Vec ℕ)) (choices : List ℕ) (places : Places) → HaveAllGroves all of_roots lists → All (λ p. p < length all) choices
    → IsByGrove lists choices places → MeetInGroves all lists choices places
meet all of_roots lists choices places have low by = record {
  count = by.count;
  met = λ p r i d inside root h at here.
      let grove = slice_index of_roots r in
      let choice = slice_index choices i in
      let own = λ (e : Vec ℕ). have.each choice e (low i 0 h) r (anchor_there all choice r root here) in
      any_there (λ g. is_there places.keys.items (key_of g i)) (slice_index_or lists p d).items grove (have.each p d inside r at) (by.placed i grove h own);
}

-- a number of some is there
pub number_there : (xs : List ℕ) (i : ℕ) → i < length xs → is_there xs (slice_index xs i) ≡ true
number_there xs i h = list_any_at (λ y. y == slice_index xs i) xs i 0 h (eq-eqb (slice_index xs i) (slice_index xs i) refl)
