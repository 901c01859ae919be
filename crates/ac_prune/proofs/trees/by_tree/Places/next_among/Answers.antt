use Rattle.std.proofs.Common.{◌≡◌, ◌∙◌, ◌||◌, ℕ, Bool, List, true, take, inl, inr, slice_index, sym, arith, subst}
use Rattle.std.specs.List.{list_any}
use Rattle.std.proofs.lemmas.Bool.{cases_Bool, cases_eq}
use Rattle.std.proofs.lemmas.List.{take_all}
use Rattle.std.proofs.lemmas.List.Folds.{list_any_more}
use Rattle.ac_prune.specs.Trees.Keys.{key_of, is_there}
use Rattle.ac_prune.proofs.Roots.TreeLemmas.{or_left, or_right, or_none}
use Rattle.ac_prune.proofs.trees.by_tree.Places.next_among.Goals as goal

pub loop-grove-preserved : goal.loop-grove-preserved
loop-grove-preserved c =
    let keys = c.args.self.now.keys.items in
    let groves = c.args.groves.now in
    let j = c.loop-grove.grove-index in
    let grove = slice_index groves j in
    let was = c.loop-grove.invariant in
    let least = c.min-least.result in
    let test : ℕ → ℕ → Bool = λ i g. is_there keys (key_of g i) in
    let more = λ (i : ℕ). list_any_more (test i) groves j 0 c.loop-grove-test.true in
    record {
      kept = omega (arith, was.kept, c.next_in.ensures.kept, c.min-least.ensures);
      within = omega (arith, was.within, c.min-least.ensures);
      there = λ h.
          rw (more least)
          (elim (cases_eq c.next_in.result least) [
            | inl is ↦ or_right _ _ (subst (λ (i : ℕ). test i grove ≡ true) is (c.next_in.ensures.there (omega (arith, is, h))))
            | inr other ↦
                let is : c.loop-grove.least ≡ least = omega (arith, c.min-least.ensures, other) in
                or_left _ _ (subst (λ (i : ℕ). list_any (test i) (take j groves) ≡ true) is (was.there (omega (arith, is, h))))
          ]);
      passed = λ i from m.
          let both : list_any (test i) (take j groves) || test i grove ≡ true = sym (more i) ∙ m in
          elim (cases_Bool (test i grove)) [
            | inl here ↦ omega (arith, c.next_in.ensures.passed i from here, c.min-least.ensures)
            | inr other ↦ omega (arith, was.passed i from (or_none _ (rw other at both)), c.min-least.ensures)
          ];
    }

pub returns-clause-passed : goal.returns-clause-passed
returns-clause-passed c = λ i from m.
    let keys = c.args.self.now.keys.items in
    let all = take_all c.loop-grove.grove-index c.args.groves.now (omega (arith, c.loop-grove-test.false)) in
    c.loop-grove.invariant.passed i from (subst (λ (gs : List ℕ). list_any (λ g. is_there keys (key_of g i)) gs ≡ true) (sym all) m)
