use Rattle.std.proofs.Common.{◌≡◌, ◌∙◌, ◌||◌, ℕ, Bool, true, take, inl, inr, slice_index, sym, arith, subst}
use Rattle.std.specs.List.{list_any}
use Rattle.std.specs.Prelude.{◌==◌}
use Rattle.std.proofs.lemmas.Bool.{cases_Bool, cases_eq, ne_eqb}
use Rattle.std.proofs.lemmas.List.Folds.{list_any_more}
use Rattle.ac_prune.specs.Trees.Keys.{key_of, is_there, IsUnder}
use Rattle.ac_prune.proofs.Roots.TreeLemmas.{or_left, or_right, or_none}
use Rattle.ac_prune.proofs.trees.by_tree.Places.next_at.Goals as goal

pub loop-tree-preserved : goal.loop-tree-preserved
loop-tree-preserved c =
    let keys = c.args.self.now.keys.items in
    let groves = c.args.groves.now in
    let trees = c.args.trees.now in
    let j = c.loop-tree.tree-index in
    let tree = slice_index trees j in
    let was = c.loop-tree.invariant in
    let least = c.min-least.result in
    let test : ℕ → ℕ → Bool = λ i r. is_there keys (key_of r i) || is_there keys (key_of (slice_index groves r) i) in
    record {
      kept = omega (arith, was.kept, c.next_in-in_tree.ensures.kept, c.next_in-in_grove.ensures.kept, c.min.ensures, c.min-least.ensures);
      within = omega (arith, was.within, c.min.ensures, c.min-least.ensures);
      there = λ h.
          rw (list_any_more (test least) trees j 0 c.loop-tree-test.true)
          (elim (cases_eq c.next_in-in_tree.result least) [
            | inl is ↦ or_right _ _ (or_left _ _ (subst (λ (i : ℕ). is_there keys (key_of tree i) ≡ true) is (c.next_in-in_tree.ensures.there (omega (arith, is, h)))))
            | inr other ↦ elim (cases_eq c.next_in-in_grove.result least) [
              | inl is ↦ or_right _ _ (or_right _ _ (subst (λ (i : ℕ). is_there keys (key_of (slice_index groves tree) i) ≡ true) is (rw c.grove_of.ensures at (c.next_in-in_grove.ensures.there (omega (arith, is, h))))))
              | inr neither ↦
                  let is : c.loop-tree.least ≡ least = omega (arith, c.min.ensures, c.min-least.ensures, other, neither) in
                  or_left _ _ (subst (λ (i : ℕ). list_any (test i) (take j trees) ≡ true) is (was.there (omega (arith, is, h))))
            ]
          ]);
      passed = λ r i m from under. elim (cases_eq tree r) [
        | inl e ↦
            let here : IsUnder keys (slice_index groves tree) tree i = subst (λ (x : ℕ). IsUnder keys (slice_index groves x) x i) (sym e) under in
            elim (cases_Bool (is_there keys (key_of tree i))) [
              | inl k ↦ omega (arith, c.next_in-in_tree.ensures.passed i from k, c.min.ensures, c.min-least.ensures)
              | inr k ↦ omega (arith, c.next_in-in_grove.ensures.passed i from (rw c.grove_of.ensures (rw k at here)), c.min-least.ensures)
            ]
        | inr e ↦
            let other = ne_eqb tree r e in
            let both : is_there (take j trees) r || (tree == r) ≡ true = sym (list_any_more (λ y. y == r) trees j 0 c.loop-tree-test.true) ∙ m in
            omega (arith, was.passed r i (or_none _ (rw other at both)) from under, c.min.ensures, c.min-least.ensures)
      ];
    }
