-- The rows of one provider, and what is said of it.
use Rattle.ac_tables.proofs.Common.{◌≡◌, ◌∙◌, ◌<◌, ℕ, zero, suc, Bool, true, List, [], ◌∷◌, map, refl, sym, ap, ap₂, subst, arith, inl, inr, ◌==◌, Ordering, Less, All, AllByRecursion, Contains, filter, cases_Bool, All-weaker, recursion_from_All, IsStrictlySortedBy-filter, turned_cmp, row_shown, TableRow}
use Rattle.std.specs.List.Sorted.{IsStrictlySortedBy}
use Rattle.std.proofs.lemmas.List.Elements.{filter_passes}
use Rattle.ac_tables.proofs.Gathered.RowOrder.{tied_then}
use Rattle.ac_base.proofs.Small.{are_equal}
use Rattle.ac_base.proofs.Sorted.SameItems.{map_has}

module _ {X : Type 0} (p : X → Bool) where
  pub filter_has : (xs : List X) (x : X) → Contains xs x → p x ≡ true → Contains (filter p xs) x
  filter_has [] x c e = let i = c.1 in absurd (omega (arith, i))
  filter_has (y ∷ xs) x (zero, inside, here) e = grind (arith)
  filter_has (y ∷ xs) x (suc k, inside, here) e = elim (cases_Bool (p y)) [
    | inl passes ↦ rw passes (let c = filter_has xs x (k, omega arith, here) e in (suc c.0, (let i = c.1 in omega (arith, i)), c.2))
    | inr fails ↦ rw fails (filter_has xs x (k, omega arith, here) e)
  ]

  pub has_filter : (xs : List X) (x : X) → Contains (filter p xs) x → Contains xs x × (p x ≡ true)
  has_filter [] x c = let i = c.1 in absurd (omega (arith, i))
  has_filter (y ∷ xs) x c = elim (cases_Bool (p y)) [
    | inl passes ↦ at (λ d. has_filter xs x d) passes (rw passes at c)
    | inr fails ↦ (let r = has_filter xs x (rw fails at c) in ((suc r.0.0, (let i = r.0.1 in omega (arith, i)), r.0.2), r.1))
  ]
    where
      at : (Contains (filter p xs) x → Contains xs x × (p x ≡ true)) → p y ≡ true → Contains (y ∷ filter p xs) x → Contains (y ∷ xs) x × (p x ≡ true)
      at later passes (zero, inside, here) = ((zero, omega arith, here), ap p (sym here) ∙ passes)
      at later passes (suc k, inside, here) = let r = later (k, omega arith, here) in ((suc r.0.0, (let i = r.0.1 in omega (arith, i)), r.0.2), r.1)

module _ {X Y : Type 0} (f : X → Y) where
  pub has_map : (xs : List X) (y : Y) → Contains (map f xs) y → (x : X) × Contains xs x × (f x ≡ y)
  has_map [] y c = let i = c.1 in absurd (omega (arith, i))
  has_map (x ∷ xs) y (zero, inside, here) = (x, (zero, omega arith, refl), here)
  has_map (x ∷ xs) y (suc k, inside, here) = let r = has_map xs y (k, omega arith, here) in (r.0, (suc r.1.0, (let i = r.1.1 in omega (arith, i)), r.1.2), r.2)

-- what is made of the items that pass, in a list that has all of another
pub own_moved : {X Y : Type 0} (p : X → Bool) (f : X → Y) (xs ys : List X) → ((x : X) → Contains xs x → Contains ys x) → (y : Y) → Contains (map f (filter p xs)) y → Contains (map f (filter p ys)) y
own_moved p f xs ys moved y c =
    let r = has_map f (filter p xs) y c in
    let h = has_filter p xs r.0 r.1 in
    subst (Contains (map f (filter p ys))) r.2 (map_has f (filter p ys) r.0 (filter_has p ys r.0 (moved r.0 h.0) h.1))

-- rows of one provider compare by their keys
module _ {K X Y : Type 0} (cmp : K → K → Ordering) (order : Y → Y → Ordering) (bytes : K → Y) (same : (a b : K) → cmp a b ≡ order (bytes a) (bytes b)) (turn : ℕ → ℕ) (p : ℕ) where
  by_key : (a b : TableRow K X) → a.place ≡ p → b.place ≡ p → turned_cmp turn cmp a b ≡ order (bytes a.key) (bytes b.key)
  by_key a b e f = tied_then (cmp a.key b.key) (turn a.place) (turn b.place) (ap turn (e ∙ sym f)) ∙ same a.key b.key

  all_below : (a : TableRow K X) (rs : List (TableRow K X)) → a.place ≡ p → AllByRecursion (λ r. r.place ≡ p) rs → AllByRecursion (λ r. turned_cmp turn cmp a r ≡ Less) rs
      → AllByRecursion (λ y. order (bytes a.key) y ≡ Less) (map (λ r. bytes r.key) rs)
  all_below a [] e here less = tt
  all_below a (r ∷ rs) e here less = (sym (by_key a r e here.0) ∙ less.0, all_below a rs e here.1 less.1)

  pub keys_sorted : (rs : List (TableRow K X)) → AllByRecursion (λ r. r.place ≡ p) rs → IsStrictlySortedBy (turned_cmp turn cmp) rs → IsStrictlySortedBy order (map (λ r. bytes r.key) rs)
  unfolding IsStrictlySortedBy
  keys_sorted [] here sorted = tt
  keys_sorted (r ∷ rs) here sorted = (all_below r rs here.0 here.1 sorted.0, keys_sorted rs here.1 sorted.1)

  pub own_keys_sorted : (rs : List (TableRow K X)) → IsStrictlySortedBy (turned_cmp turn cmp) rs → IsStrictlySortedBy order (map (λ r. bytes r.key) (filter (λ r. r.place == p) rs))
  own_keys_sorted rs sorted = grind (arith, All-weaker, IsStrictlySortedBy-filter, are_equal, filter_passes, keys_sorted, recursion_from_All)

module _ {V K X Y : Type 0} (shown : ℕ → K → X → V) (count : ℕ) (provider : V → ℕ) (part : V → Y) (show : TableRow K X → Y) (p id : ℕ)
    (whose : (r : TableRow K X) → r.place < count → (provider (row_shown shown r) == id) ≡ (r.place == p))
    (what : (r : TableRow K X) → part (row_shown shown r) ≡ show r) where
  pub of_provider : (rs : List (TableRow K X)) → All (λ r. r.place < count) rs → map part (filter (λ v. provider v == id) (map (row_shown shown) rs)) ≡ map show (filter (λ r. r.place == p) rs)
  of_provider [] inside = refl
  of_provider (r ∷ rs) inside =
      let rest = of_provider rs (λ k d i. inside (suc k) d (omega arith)) in
      let test = whose r (inside zero r (omega arith)) in
      elim (cases_Bool (r.place == p)) [
        | inl passes ↦ rw (test ∙ passes, passes) (ap₂ (λ a l. a ∷ l) (what r) rest)
        | inr fails ↦ rw (test ∙ fails, fails) rest
      ]
