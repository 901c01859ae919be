use Rattle.std.proofs.Common.{◌≡◌, ◌∙◌, ◌-◌, ◌<◌, ◌≤◌, ◌^◌, ℕ, List, length, inl, inr, sym, arith, get_or, slice_index}
use Rattle.std.proofs.lemmas.Bool.{cases_lt}
use Rattle.std.proofs.lemmas.List.{get_or_default}
use Rattle.std.proofs.lemmas.List.Sorted.{searched}
use Rattle.ac_prune.specs.Trees.Keys.{IsLeastFrom}
use Rattle.ac_prune.proofs.Roots.TreeLemmas.{there_at, at_there}
use Rattle.ac_prune.proofs.trees.by_tree.least_from.Goals as goal

-- where the numbers before a place are below a bound, and the one at the place isn't
module _ (numbers : List ℕ) (bound at : ℕ) (rising : (i j : ℕ) → i ≤ j → j < length numbers → slice_index numbers i ≤ slice_index numbers j) (below : 0 < at → slice_index numbers (at - 1) < bound) where
  not_before : (k : ℕ) → k < at → at ≤ length numbers → slice_index numbers k < bound
  not_before k less within = omega (arith, rising k (at - 1) (omega (arith, less)) (omega (arith, less, within)), below (omega (arith, less)))

  found_here : (at < length numbers) → bound ≤ slice_index numbers at → IsLeastFrom numbers bound (slice_index numbers at)
  found_here inside up = record {
    above = up;
    least = λ x there h.
        let m = there_at numbers x there in
        let is : get_or numbers m.0 0 ≡ x = sym (get_or_default numbers m.0 x 0 m.1) ∙ m.2 in
        elim (cases_lt m.0 at) [
          | inl l ↦ absurd (omega (arith, not_before m.0 l (omega (arith, inside)), is, h))
          | inr g ↦ omega (arith, rising at m.0 (omega (arith, g)) m.1, is)
        ];
    there = λ _. at_there numbers (get_or numbers at 0) (at, inside, get_or_default numbers at (get_or numbers at 0) 0 inside);
  }

  found_nowhere : at ≡ length numbers → bound < 2 ^ 64 → IsLeastFrom numbers bound (2 ^ 64 - 1)
  found_nowhere end fits = record {
    above = omega (arith, fits);
    least = λ x there h.
        let m = there_at numbers x there in
        let is : get_or numbers m.0 0 ≡ x = sym (get_or_default numbers m.0 x 0 m.1) ∙ m.2 in
        absurd (omega (arith, not_before m.0 (omega (arith, m.1, end)) (omega (arith, end)), is, h));
    there = λ h. absurd (omega (arith, h));
  }

pub returns-then-guess-numbers : goal.returns-then-guess-numbers
returns-then-guess-numbers c =
    let here = c.begins_at.ensures in
    found_here c.args.numbers.now c.args.bound c.args.guess c.requires (here.below c.if-begins_at.true) c.if-guess-numbers.true (here.above c.if-begins_at.true c.if-guess-numbers.true)

pub returns-then-begins_at : goal.returns-then-begins_at
returns-then-begins_at c =
    let here = c.begins_at.ensures in
    found_nowhere c.args.numbers.now c.args.bound c.args.guess c.requires (here.below c.if-begins_at.true) (omega (arith, here.within c.if-begins_at.true, c.if-guess-numbers.false)) c.ranges.bound.fits

pub returns-in-Ok : goal.returns-in-Ok
returns-in-Ok c =
    let numbers = c.args.numbers.now in
    let s = rw c.in-Ok.is at (searched numbers c.args.bound c.binary_search.result c.binary_search.ensures.position c.requires) in
    record {
      above = omega arith;
      least = λ x there h. h;
      there = λ _. at_there numbers c.args.bound (c.in-Ok.field-0, s.0, get_or_default numbers c.in-Ok.field-0 c.args.bound 0 s.0 ∙ s.1);
    }

pub returns-in-Err : goal.returns-in-Err
returns-in-Err c =
    let numbers = c.args.numbers.now in
    let at = c.in-Err.at in
    let s = rw c.in-Err.is at (searched numbers c.args.bound c.binary_search.result c.binary_search.ensures.position c.requires) in
    record {
      above = omega (arith, s.2 at (omega arith) c.if-at-numbers.true);
      least = λ x there h.
          let m = there_at numbers x there in
          let is : get_or numbers m.0 0 ≡ x = sym (get_or_default numbers m.0 x 0 m.1) ∙ m.2 in
          elim (cases_lt m.0 at) [
            | inl l ↦ absurd (omega (arith, s.1 m.0 l, is, h))
            | inr g ↦ omega (arith, c.requires at m.0 (omega (arith, g)) m.1, is)
          ];
      there = λ _. at_there numbers (get_or numbers at 0) (at, c.if-at-numbers.true, get_or_default numbers at (get_or numbers at 0) 0 c.if-at-numbers.true);
    }

pub returns-in-Err-2 : goal.returns-in-Err-2
returns-in-Err-2 c =
    let numbers = c.args.numbers.now in
    let at = c.in-Err.at in
    let s = rw c.in-Err.is at (searched numbers c.args.bound c.binary_search.result c.binary_search.ensures.position c.requires) in
    record {
      above = omega (arith, c.ranges.bound.fits);
      least = λ x there h.
          let m = there_at numbers x there in
          let is : get_or numbers m.0 0 ≡ x = sym (get_or_default numbers m.0 x 0 m.1) ∙ m.2 in
          absurd (omega (arith, s.1 m.0 (omega (arith, m.1, c.if-at-numbers.false)), is, h));
      there = λ h. absurd (omega (arith, h));
    }
