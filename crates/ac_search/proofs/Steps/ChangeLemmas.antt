-- How the slots that a path has changed grow with the count of tries.
use Rattle.std.proofs.Common.{◌≡◌, ℕ, ◌+◌, ◌<◌, ◌≤◌, zero, suc, List, [], ◌∷◌, ◌++◌, take, Option, Some, None, inl, inr, refl, arith, nat_lt, length-append}
use Rattle.std.specs.Prelude.{min}
use Rattle.std.proofs.lemmas.Bool.{cases_Bool}
use Rattle.std.proofs.lemmas.Bool.Decides.{nat_tests}
use Rattle.std.proofs.Math.Nat.{min-le_left, min-le_right}
use Rattle.ac_base.specs.Devices.{last_count, one_more, Rises}
use Rattle.ac_search.specs.Shown.Walk.{differing, changed}

differing_none : (x : List ℕ) → differing x [] ≡ 0
differing_none [] = refl
differing_none (a ∷ x) = refl

differing_more : (x q : List ℕ) (p : ℕ) → differing x (q ++ p ∷ []) ≤ differing x q + 1
differing_more [] q p = omega (arith, length-append q (p ∷ []))
differing_more (a ∷ x) [] p = grind (arith, nat_tests, differing_none x)
differing_more (a ∷ x) (b ∷ q) p = grind (arith, nat_tests, differing_more x q p, length-append q (p ∷ []))

differing_less : (x q : List ℕ) (p : ℕ) → differing x q ≤ differing x (q ++ p ∷ [])
differing_less [] q p = omega (arith, length-append q (p ∷ []))
differing_less (a ∷ x) [] p = omega arith
differing_less (a ∷ x) (b ∷ q) p = grind (arith, nat_tests, differing_less x q p, length-append q (p ∷ []))

-- with one more number at most one more slot is changed
pub changed_more : (x : Option (List ℕ)) (q : List ℕ) (p : ℕ) → changed x (q ++ p ∷ []) ≤ changed x q + 1
changed_more None q p = omega (arith, length-append q (p ∷ []))
changed_more (Some x) q p = differing_more x q p

-- and none fewer
pub changed_less : (x : Option (List ℕ)) (q : List ℕ) (p : ℕ) → changed x q ≤ changed x (q ++ p ∷ [])
changed_less None q p = omega (arith, length-append q (p ∷ []))
changed_less (Some x) q p = differing_less x q p

-- a front of a list has changed nothing
pub differing_front : (x : List ℕ) (d : ℕ) → differing x (take d x) ≡ 0
differing_front x zero = differing_none x
differing_front [] (suc d) = refl
differing_front (a ∷ x) (suc d) = grind (arith, nat_tests, differing_front x d)

-- ---- One more try

-- the count stays, or rises by one
pub one_more_kept : (n : ℕ) → n ≤ one_more n
one_more_kept n = elim (cases_Bool (nat_lt n last_count)) [ inl e ↦ rw e (omega arith) | inr e ↦ rw e (omega arith) ]

pub one_more_most : (n : ℕ) → one_more n ≤ n + 1
one_more_most n = elim (cases_Bool (nat_lt n last_count)) [ inl e ↦ rw e (omega arith) | inr e ↦ rw e (omega arith) ]

pub one_more_some : (n : ℕ) → 0 < one_more n
one_more_some n = elim (cases_Bool (nat_lt n last_count)) [ inl e ↦ rw e (omega arith) | inr e ↦ grind (arith, nat_tests) ]

pub one_more_rises : (a n : ℕ) → a ≤ n → Rises a (one_more n)
one_more_rises a n h = λ l. elim (cases_Bool (nat_lt n last_count)) [ inl e ↦ rw e (omega arith) | inr e ↦ grind (arith, nat_tests) ]

-- it pays for one more slot
pub one_more_pays : (a b n : ℕ) → b ≤ a + 1 → min a last_count ≤ n → min b last_count ≤ one_more n
one_more_pays a b n h k = grind (arith, nat_tests, min-le_left b last_count, min-le_right b last_count)

-- and for fewer
pub fewer_paid : (a b n : ℕ) → b ≤ a → min a last_count ≤ n → min b last_count ≤ n
fewer_paid a b n h k = grind (arith, min-le_left b last_count, min-le_right b last_count)
