-- Rising lists of numbers.
use Rattle.ac_cloud.proofs.Common.{◌≡◌, ◌≢◌, ◌<◌, ◌≤◌, ℕ, zero, suc, true, false, List, [], ◌∷◌, length, get_or, refl, arith, rules, inl, inr, ◌+◌, ◌∙◌, Some, None, sym, ap, Result, Ok, Err, IfSome, ◌==◌, result_ok, position_from, nat_cmp, IsBinarySearchResult, IsStrictlySortedBy, cases_lt, cases_Bool, cases_eq, IsRising, is_one_of, rank}
use Rattle.std.proofs.Common.{IfNone}
use Rattle.std.proofs.lemmas.List.Sorted.{searched}
use Rattle.std.proofs.lemmas.Map.Keys.{below_from_sorted}
use Rattle.ac_base.proofs.Small.{differ}

pub rising_from_sorted : (xs : List ℕ) → IsStrictlySortedBy nat_cmp xs → IsRising xs
rising_from_sorted xs h i j less inside = below_from_sorted xs i j 0 h less inside

at_most : (xs : List ℕ) → IsRising xs → (i j : ℕ) → i ≤ j → j < length xs → get_or xs i 0 ≤ get_or xs j 0
at_most xs h i j le inside = grind (arith, cases_eq)

pub rising_apart : (xs : List ℕ) → IsRising xs → (i j : ℕ) → i < length xs → j < length xs → i ≢ j → get_or xs i 0 ≢ get_or xs j 0
rising_apart xs h i j hi hj ne e = grind (arith)

-- what isn't at any place isn't there
nowhere : (xs : List ℕ) (x : ℕ) → ((k : ℕ) → k < length xs → get_or xs k 0 ≢ x) → is_one_of xs x ≡ false
nowhere [] x h = refl
nowhere (y ∷ xs) x h =
    rw (differ y x (h zero (omega arith))) (nowhere xs x (λ (k : ℕ) (inside : k < length xs). h (suc k) (omega arith)))

-- the place of a number in a rising list
pub found_place : (xs : List ℕ) (x : ℕ) (r : Result ℕ ℕ) → IsRising xs → IsBinarySearchResult (λ y. nat_cmp y x) xs r
    → IfSome (result_ok r) (λ place. (place < length xs) × (get_or xs place 0 ≡ x))
found_place xs x (Ok i) h s = searched xs x (Ok i) s (at_most xs h)
found_place xs x (Err i) h s = tt

pub absent_place : (xs : List ℕ) (x : ℕ) (r : Result ℕ ℕ) → IsRising xs → IsBinarySearchResult (λ y. nat_cmp y x) xs r → IfNone (result_ok r) (is_one_of xs x ≡ false)
absent_place xs x (Ok i) h s = tt
absent_place xs x (Err i) h s =
    let f = searched xs x (Err i) s (at_most xs h) in
    nowhere xs x (λ (k : ℕ) (inside : k < length xs) (e : get_or xs k 0 ≡ x). away xs x i k f inside e)
  where
    away : (xs : List ℕ) (x i k : ℕ) → (i ≤ length xs) × ((k : ℕ) → k < i → get_or xs k 0 < x) × ((k : ℕ) → i ≤ k → k < length xs → x < get_or xs k 0)
        → k < length xs → get_or xs k 0 ≡ x → ⊥
    away xs x i k f inside e = elim (cases_lt k i) [ inl less ↦ omega (arith, f.1 k less, e) | inr more ↦ omega (arith, f.2 k more inside, e) ]

-- what is at a place is there
pub one_of_place : (xs : List ℕ) (x i : ℕ) → i < length xs → get_or xs i 0 ≡ x → is_one_of xs x ≡ true
one_of_place [] x i h e = absurd (omega (arith, h))
one_of_place (y ∷ xs) x zero h e = let first : (y == x) ≡ true = search (arith, rules) in rw first refl
one_of_place (y ∷ xs) x (suc i) h e = elim (cases_Bool (y == x)) [ inl k ↦ rw k refl | inr k ↦ rw k (one_of_place xs x i (omega arith) e) ]

position_shift : (x k : ℕ) (xs : List ℕ) → ((i : ℕ) → i < length xs → get_or xs i 0 ≢ x) → position_from (λ p. p == x) k xs ≡ None
position_shift x k [] h = refl
position_shift x k (y ∷ xs) h =
    rw (differ y x (h zero (omega arith))) (position_shift x (k + 1) xs (λ (i : ℕ) (inside : i < length xs). h (suc i) (omega arith)))

position_here : (x k : ℕ) (xs : List ℕ) (i : ℕ) → i < length xs → get_or xs i 0 ≡ x → ((j : ℕ) → j < i → get_or xs j 0 ≢ x) → position_from (λ p. p == x) k xs ≡ Some (k + i)
position_here x k [] i h e before = absurd (omega (arith, h))
position_here x k (y ∷ xs) zero h e before = grind (arith)
position_here x k (y ∷ xs) (suc i) h e before =
    let first : (y == x) ≡ false = differ y x (before zero (omega arith)) in
    let more : k + 1 + i ≡ k + suc i = omega arith in
    rw first (position_here x (k + 1) xs i (omega arith) e (λ (j : ℕ) (less : j < i). before (suc j) (omega arith)) ∙ ap (λ (n : ℕ). Some n) more)

-- the place of what is at a place
pub rank_at : (xs : List ℕ) (x i : ℕ) → IsRising xs → i < length xs → get_or xs i 0 ≡ x → rank xs x ≡ Some i
rank_at xs x i rising h e = grind (arith, position_here)

pub rank_none : (xs : List ℕ) (x : ℕ) → is_one_of xs x ≡ false → rank xs x ≡ None
rank_none xs x absent = position_shift x 0 xs (λ (i : ℕ) (h : i < length xs) (e : get_or xs i 0 ≡ x). absurd (cc (one_of_place xs x i h e, absent)))

pub found_value : (xs : List ℕ) (x : ℕ) (r : Result ℕ ℕ) → IsRising xs → IsBinarySearchResult (λ y. nat_cmp y x) xs r → result_ok r ≡ rank xs x
found_value xs x (Ok i) rising s = let f = found_place xs x (Ok i) rising s in sym (rank_at xs x i rising f.0 f.1)
found_value xs x (Err i) rising s = sym (rank_none xs x (absent_place xs x (Err i) rising s))
