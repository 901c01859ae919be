-- A set of keys in their order, and more keys.
use Rattle.std.proofs.Common.{◌≡◌, List, [], ◌∷◌, refl, ap, ◌∙◌, Ordering, Less, Equal, Greater, fold}
use Rattle.std.specs.Ordering.{ordering_reverse}
use Rattle.std.specs.Cmp.{IsTotalOrder}
use Rattle.std.specs.List.{AllByRecursion}
use Rattle.std.specs.BTreeSet.{insert_key}
use Rattle.ac_base.specs.Sorted.{rising}
use Rattle.std.specs.List.Sorted.{IsStrictlySortedBy}
use Rattle.std.proofs.Common.{arith}
use Rattle.std.proofs.lemmas.Grind.{common_steps}

all_weaker : {X : Type 0} (P Q : X → Type 0) → ((x : X) → P x → Q x) → (xs : List X) → AllByRecursion P xs → AllByRecursion Q xs
all_weaker P Q h [] all = tt
all_weaker P Q h (x ∷ xs) all = (h x all.0, all_weaker P Q h xs all.1)

module _ {K : Type 0} {R : K → K → Ordering} (total : IsTotalOrder R) where
  below_insert : (x k : K) (ks : List K) → R x k ≡ Less → AllByRecursion (λ y. R x y ≡ Less) ks → AllByRecursion (λ y. R x y ≡ Less) (insert_key R ks k)
  below_insert x k [] less all = (less, tt)
  below_insert x k (y ∷ ks) less all = by_order (R k y) refl (below_insert x k ks less all.1)
    where
      by_order : (o : Ordering) → R k y ≡ o → AllByRecursion (λ z. R x z ≡ Less) (insert_key R ks k) → AllByRecursion (λ z. R x z ≡ Less) (insert_key R (y ∷ ks) k)
      by_order o is later = grind (arith, common_steps)

  pub insert_sorted : (ks : List K) (k : K) → IsStrictlySortedBy R ks → IsStrictlySortedBy R (insert_key R ks k)
  unfolding IsStrictlySortedBy
  insert_sorted [] k s = (tt, tt)
  insert_sorted (x ∷ ks) k s = by_order (R k x) refl (insert_sorted ks k s.1)
    where
      by_order : (o : Ordering) → R k x ≡ o → IsStrictlySortedBy R (insert_key R ks k) → IsStrictlySortedBy R (insert_key R (x ∷ ks) k)
      by_order Less is later = rw is ((is, all_weaker _ _ (λ y h. total.trans k x y is h) ks s.0), s)
      by_order Equal is later = rw is s
      by_order Greater is later =
          rw is (below_insert x k ks (total.antisymm x k ∙ ap ordering_reverse is) s.0, later)

  all_sorted : (ks more : List K) → IsStrictlySortedBy R ks → IsStrictlySortedBy R (fold (insert_key R) ks more)
  all_sorted ks [] s = s
  all_sorted ks (x ∷ more) s = all_sorted (insert_key R ks x) more (insert_sorted ks x s)

  pub empty_sorted : IsStrictlySortedBy R []
  unfolding IsStrictlySortedBy
  empty_sorted = tt

  pub rising_sorted : (xs : List K) → IsStrictlySortedBy R (rising R xs)
  rising_sorted xs = all_sorted [] xs empty_sorted
