-- Binary search in a list whose keys rise.
use Rattle.std.proofs.Common.{◌≡◌, ◌∙◌, ◌<◌, ◌+◌, ℕ, zero, suc, Bool, true, false, List, [], ◌∷◌, map, length, get_or, Some, None, refl, sym, ap, ap₂, arith, Ordering, inl, inr, Result, Ok, Err, ◌==◌, ◌&&◌, ◌||◌, if◌then◌else◌, Less, Equal, is_lt, is_eq, nat_cmp, IsSortedBy, is_ok, MatchResult}
use Rattle.std.specs.Ordering.{ordering_reverse}
use Rattle.std.specs.Cmp.{IsTotalOrder}
use Rattle.std.specs.List.{list_any}
use Rattle.std.specs.Map.{lookup}
use Rattle.std.specs.List.Sorted.{IsBinarySearchResult, IsStrictlySortedBy, IsSearchInRange}
use Rattle.std.proofs.lemmas.List.{get_or-map, length-map}
use Rattle.std.proofs.lemmas.List.Folds.{list_any_at, list_any_none}
use Rattle.std.proofs.lemmas.Cmp.{alike_right}
use Rattle.std.proofs.lemmas.Bool.{cases_Bool, cases_lt}
use Rattle.std.proofs.lemmas.List.Sorted.{searchable_from_sorted}
use Rattle.std.proofs.lemmas.Map.Keys.{Less-from_sorted}
use Rattle.std.proofs.lemmas.Grind.{common_steps}

-- looking up by equal tests
pub lookup_same : {K X : Type 0} (p q : K → Bool) (same : (k : K) → p k ≡ q k) (es : List (K × X)) → lookup p es ≡ lookup q es
lookup_same p q same [] = refl
lookup_same p q same (e ∷ es) = ap₂ (λ b o. if b then Some e.1 else o) (same e.0) (lookup_same p q same es)

less_back : (p q : Ordering) → q ≡ ordering_reverse p → p ≡ Less → is_lt q ≡ false
less_back p q e h = grind (arith, common_steps)

eq_back : (p : Ordering) → is_eq (ordering_reverse p) ≡ is_eq p
eq_back p = grind (arith, common_steps)

pub no_any : {X : Type 0} (test : X → Bool) (xs : List X) → ((k : ℕ) (d : X) → k < length xs → test (get_or xs k d) ≡ false) → list_any test xs ≡ false
no_any test xs h = list_any_none test xs h

pub any_same : {X : Type 0} (p q : X → Bool) → ((x : X) → p x ≡ q x) → (xs : List X) → list_any p xs ≡ list_any q xs
any_same p q same [] = refl
any_same p q same (x ∷ xs) = ap₂ (λ a b. a || b) (same x) (any_same p q same xs)

pub any_map : {A B : Type 0} (p : A → Bool) (q : B → Bool) (f : A → B) (same : (a : A) → p a ≡ q (f a)) (xs : List A) → list_any p xs ≡ list_any q (map f xs)
any_map p q f same [] = refl
any_map p q f same (x ∷ xs) = ap₂ (λ a b. a || b) (same x) (any_map p q f same xs)

-- one of the first and one of the second
pub any_or : {A : Type 0} (u v : A → Bool) (xs : List A) → list_any (λ x. u x || v x) xs ≡ (list_any u xs || list_any v xs)
any_or u v [] = refl
any_or u v (x ∷ xs) = ap (λ b. (u x || v x) || b) (any_or u v xs) ∙ four (u x) (v x) (list_any u xs) (list_any v xs)
  where
    four : (a b c d : Bool) → ((a || b) || (c || d)) ≡ ((a || c) || (b || d))
    four a b c d = grind (arith, common_steps, cases_Bool)

and_any : {A : Type 0} (b : Bool) (g : A → Bool) (xs : List A) → (b && list_any g xs) ≡ list_any (λ x. b && g x) xs
and_any true g xs = refl
and_any false g xs = sym (list_any_none (λ x. false) xs (λ k d h. refl))

pub any_swap : {Q A : Type 0} (f : Q → Bool) (g : Q → A → Bool) (qs : List Q) (xs : List A) → list_any (λ q. f q && list_any (g q) xs) qs ≡ list_any (λ x. list_any (λ q. f q && g q x) qs) xs
any_swap f g [] xs = sym (list_any_none (λ x. false) xs (λ k d h. refl))
any_swap f g (q ∷ qs) xs = ap₂ (λ b c. b || c) (and_any (f q) (g q) xs) (any_swap f g qs xs) ∙ sym (any_or (λ x. f q && g q x) (λ x. list_any (λ r. f r && g r x) qs) xs)

pub is_eq_nat : (a b : ℕ) → is_eq (nat_cmp a b) ≡ (b == a)
is_eq_nat a b = grind arith

module _ {X K : Type 0} (key : X → K) {R : K → K → Ordering} (o : IsTotalOrder R) where
  -- an earlier key is below a later one
  below : (xs : List X) (i j : ℕ) (d : X) → IsStrictlySortedBy R (map key xs) → i < j → j < length xs → R (key (get_or xs i d)) (key (get_or xs j d)) ≡ Less
  below xs i j d h less inside =
      let here : R (get_or (map key xs) i (key d)) (get_or (map key xs) j (key d)) ≡ Less = Less-from_sorted R (map key xs) i j (key d) h less (omega (arith, inside, length-map xs key)) in
      rw (get_or-map key xs i d (key d) (omega (arith, less, inside)), get_or-map key xs j d (key d) inside) at here

  pub in_order : (xs : List X) → IsStrictlySortedBy R (map key xs) → IsSortedBy (λ a b. is_lt (R (key a) (key b))) xs
  in_order xs h = λ k d low inside.
      less_back (R (key (get_or xs k d)) (key (get_or xs (k + 1) d))) (R (key (get_or xs (k + 1) d)) (key (get_or xs k d)))
      (o.antisymm (key (get_or xs (k + 1) d)) (key (get_or xs k d))) (below xs k (k + 1) d h (omega arith) inside)

  -- what a search found: an equal key, or none is there
  abbrev pub Finds : List X → K → Result ℕ ℕ → Type 0
  Finds xs x r = MatchResult r (λ i. (i < length xs) × ((d : X) → R (key (get_or xs i d)) x ≡ Equal)) (λ i. (k : ℕ) (d : X) → k < length xs → is_eq (R (key (get_or xs k d)) x) ≡ false)

  pub found : (xs : List X) (x : K) (r : Result ℕ ℕ) → IsStrictlySortedBy R (map key xs) → IsSearchInRange r (length xs) → IsBinarySearchResult (λ y. R (key y) x) xs r → Finds xs x r
  found xs x (Ok i) h range s = (range, s)
  found xs x (Err i) h range s = λ k d inside.
      let parts = s (searchable_from_sorted o key xs x (in_order xs h)) in
      elim (cases_lt k i) [
        | inl less ↦ ap is_eq (parts.0 k d (omega arith) less)
        | inr more ↦ ap is_eq (parts.1 k d more inside)
      ]

  -- whether a key is there
  pub found_any : (xs : List X) (x : K) (r : Result ℕ ℕ) → Finds xs x r → is_ok r ≡ list_any (λ y. is_eq (R x (key y))) xs
  found_any [] x (Ok i) f = absurd (omega (arith, f.0))
  found_any (y ∷ ys) x (Ok i) f =
      sym (list_any_at (λ z. is_eq (R x (key z))) (y ∷ ys) i y f.0
      (ap is_eq (o.antisymm x (key (get_or (y ∷ ys) i y))) ∙ eq_back (R (key (get_or (y ∷ ys) i y)) x) ∙ ap is_eq (f.1 y)))
  found_any xs x (Err i) f =
      sym (no_any (λ z. is_eq (R x (key z))) xs (λ k d inside. ap is_eq (o.antisymm x (key (get_or xs k d))) ∙ eq_back (R (key (get_or xs k d)) x) ∙ f k d inside))

  -- the value of a key
  module _ {V : Type 0} (value : X → V) where
    abbrev pair : X → K × V
    pair y = (key y, value y)

    first_passes : (test : K → Bool) (xs : List X) (i : ℕ) (d : X) → i < length xs → test (key (get_or xs i d)) ≡ true
        → ((j : ℕ) → j < i → test (key (get_or xs j d)) ≡ false) → lookup test (map pair xs) ≡ Some (value (get_or xs i d))
    first_passes test [] i d h e before = absurd (omega (arith, h))
    first_passes test (x ∷ xs) zero d h e before = rw e refl
    first_passes test (x ∷ xs) (suc i) d h e before =
        rw (before zero (omega arith)) (first_passes test xs i d (omega arith) e (λ (j : ℕ) (less : j < i). before (suc j) (omega arith)))

    none_passes : (test : K → Bool) (xs : List X) → ((k : ℕ) (d : X) → k < length xs → test (key (get_or xs k d)) ≡ false) → lookup test (map pair xs) ≡ None
    none_passes test [] h = refl
    none_passes test (x ∷ xs) h = rw (h zero x (omega arith)) (none_passes test xs (λ (k : ℕ) d (inside : k < length xs). h (suc k) d (omega arith)))

    pub found_value : (xs : List X) (x : K) (i : ℕ) (d : X) → IsStrictlySortedBy R (map key xs) → Finds xs x (Ok i) → lookup (λ k. is_eq (R x k)) (map pair xs) ≡ Some (value (get_or xs i d))
    found_value xs x i d h f =
        first_passes (λ k. is_eq (R x k)) xs i d f.0 (ap is_eq (o.antisymm x (key (get_or xs i d))) ∙ eq_back (R (key (get_or xs i d)) x) ∙ ap is_eq (f.1 d))
        (λ (j : ℕ) (less : j < i).
        ap is_eq (o.antisymm x (key (get_or xs j d))) ∙ eq_back (R (key (get_or xs j d)) x)
        ∙ ap is_eq (sym (alike_right o (key (get_or xs i d)) x (key (get_or xs j d)) (f.1 d))) ∙ ap is_eq (below xs j i d h less f.0))

    pub missed_value : (xs : List X) (x : K) (i : ℕ) → Finds xs x (Err i) → lookup (λ k. is_eq (R x k)) (map pair xs) ≡ None
    missed_value xs x i f =
        none_passes (λ k. is_eq (R x k)) xs (λ k d inside. ap is_eq (o.antisymm x (key (get_or xs k d))) ∙ eq_back (R (key (get_or xs k d)) x) ∙ f k d inside)
