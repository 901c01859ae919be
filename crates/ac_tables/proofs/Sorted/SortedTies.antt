-- Items that tie, in a list and in its sort.
use Rattle.ac_tables.proofs.Common.{◌≡◌, ◌≢◌, ◌∙◌, ◌+◌, ◌-◌, ◌<◌, ◌≤◌, ℕ, true, List, [], ◌∷◌, length, get_or, sym, ap, ap₂, subst, arith, inl, inr, ◌==◌, Some, Ordering, is_lt, is_eq, IsTotalOrder, IsPermutation, IsSortedBy, AreTiesRising, get_or_default, Contains-get_or, sorted_far, alike_right, Contains-permutation, IsPermutation-sym, IsLeast}
use Rattle.std.proofs.lemmas.Bool.{cases_order, true_from_ne_false}
use Rattle.std.proofs.lemmas.List.Sorted.{ranks_by}
use Rattle.std.proofs.lemmas.Map.Keys.{apart_from_distinct, IsDistinct-from_apart, IsDistinct-IsPermutation}
use Rattle.std.proofs.lemmas.Cmp.{tied_back}
use Rattle.ac_base.proofs.Small.{clash, differ, equal}
use Rattle.ac_tables.proofs.Gathered.RowOrder.{below_of, equal_of}

pub with_head : {X : Type 0} (xs : List X) (P : Type 0) → 0 < length xs → (X → P) → P
with_head [] P some h = absurd (omega (arith, some))
with_head (x ∷ xs) P some h = h x

-- where an item stands in a list with the same items
pub moved : {X : Type 0} (xs ys : List X) → IsPermutation xs ys → (i : ℕ) (d : X) → i < length xs → (k : ℕ) × (k < length ys) × (get_or ys k d ≡ get_or xs i d)
moved xs ys same i d inside =
    let c = Contains-permutation xs ys (get_or xs i d) same (Contains-get_or xs i d inside) in
    (c.0, c.1, get_or_default ys c.0 d (get_or xs i d) c.1 ∙ c.2)

turned : (a b : ℕ) → (a == b) ≡ (b == a)
turned a b = grind arith

-- items in the order of their numbers, and their sort, in which those that tie rise by number
pub record Sorting {X : Type 0} (R : X → X → Ordering) (number : X → ℕ) (xs ys : List X) : Type 0 where
  pub total : IsTotalOrder R
  pub sorted : IsSortedBy (λ a b. is_lt (R a b)) ys
  pub ties : AreTiesRising (λ a b. is_eq (R a b)) number ys
  pub same : IsPermutation xs ys
  pub numbered : (k : ℕ) (d : X) → k < length xs → number (get_or xs k d) ≡ k + 2

module _ {X : Type 0} (R : X → X → Ordering) (number : X → ℕ) (xs ys : List X) (s : Sorting R number xs ys) (n : ℕ) (least : IsLeast (λ a b. is_eq (R a b)) number ys (Some n)) where
  -- what ties with an earlier item of the sorted list ties with the one before it
  none_lower : (i j : ℕ) (d : X) → i < j → j < length ys → is_eq (R (get_or ys i d) (get_or ys j d)) ≡ true → n ≤ number (get_or ys j d)
  none_lower i j d less inside t =
      let far = sorted_far _ (ranks_by s.total (λ (x : X). x)) ys s.sorted in
      let first = ap is_lt (sym (alike_right s.total (get_or ys i d) (get_or ys j d) (get_or ys (j - 1) d) (equal_of _ t))) ∙ far i (j - 1) d (omega arith) (omega arith) in
      let next : is_eq (R (get_or ys (j - 1) d) (get_or ys j d)) ≡ true =
      true_from_ne_false _ (λ e. clash _ first (ap is_lt (below_of s.total _ _ (far (j - 1) j d (omega arith) inside) e))) in
      let up : j - 1 + 1 ≡ j = omega arith in
      subst (λ m. n ≤ number (get_or ys m d)) up (least.0 (j - 1) d (omega arith) (subst (λ m. is_eq (R (get_or ys (j - 1) d) (get_or ys m d)) ≡ true) (sym up) next))

  -- the least number of a neighbour that ties is that of the first repeated item
  pub none_sooner : (i j : ℕ) (d : X) → i < j → j < length xs → is_eq (R (get_or xs i d) (get_or xs j d)) ≡ true → n ≤ j + 2
  none_sooner i j d less inside t =
      let (a, a_in, a_is) = moved xs ys s.same i d (omega arith) in
      let (b, b_in, b_is) = moved xs ys s.same j d inside in
      let a_number = ap number a_is ∙ s.numbered i d (omega arith) in
      let b_number = ap number b_is ∙ s.numbered j d inside in
      let tied : is_eq (R (get_or ys a d) (get_or ys b d)) ≡ true = ap₂ (λ x y. is_eq (R x y)) a_is b_is ∙ t in
      elim (cases_order a b) [
        | inl e ↦ omega (arith, a_number, b_number, ap (λ m. number (get_or ys m d)) e)
        | inr (inl lower) ↦ omega (arith, b_number, none_lower a b d lower b_in tied)
        | inr (inr higher) ↦ omega (arith, a_number, none_lower b a d higher a_in (ap is_eq (tied_back s.total _ _ (equal_of _ tied))))
      ]

  -- it ties with an earlier item
  pub repeated : (d : X) → (i j : ℕ) × (i < j) × (j < length xs) × (n ≡ j + 2) × (is_eq (R (get_or xs i d) (get_or xs j d)) ≡ true)
  repeated d =
      let (k, inside, each) = least.1 in
      let (tied, is_n) = each d in
      let next : k + 1 < length ys = omega (arith, inside) in
      let back = IsPermutation-sym xs ys s.same in
      let (a, a_in, a_is) = moved ys xs back k d (omega arith) in
      let (b, b_in, b_is) = moved ys xs back (k + 1) d next in
      let a_number = sym (s.numbered a d a_in) ∙ ap number a_is in
      let b_number = sym (s.numbered b d b_in) ∙ ap number b_is in
      let same_number = λ (x y : X). number x == number y in
      let distinct = IsDistinct-IsPermutation same_number (λ x y. turned (number x) (number y)) xs ys s.same (IsDistinct-from_apart same_number xs
      (λ i j e less h. differ _ _ (λ one. omega (arith, one, s.numbered i e (omega arith), s.numbered j e h, less)))) in
      let apart : number (get_or ys k d) ≢ number (get_or ys (k + 1) d) = λ e. clash _ (apart_from_distinct same_number ys k (k + 1) d distinct (omega arith) next) (equal _ _ e) in
      let up : number (get_or ys k d) ≤ number (get_or ys (k + 1) d) = s.ties k d next tied in
      (a, b, omega (arith, up, apart, a_number, b_number), b_in, omega (arith, is_n, b_number), ap₂ (λ x y. is_eq (R x y)) a_is b_is ∙ tied)
