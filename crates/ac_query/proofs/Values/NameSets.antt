-- Sets of names as lists of their bytes.
use Rattle.std.proofs.Common.{◌≡◌, ℕ, ◌||◌, List, [], ◌∷◌, map, refl, sym, ap, ap₂, ◌∙◌}
use Rattle.std.specs.declared.cmp.Ordering.{Ordering}
use Rattle.std.specs.declared.cmp.Ordering.TheVariants.{Less}
use Rattle.std.specs.Ordering.{is_eq}
use Rattle.std.specs.List.{fold, list_any, AllByRecursion}
use Rattle.std.specs.List.Sorted.{IsStrictlySortedBy}
use Rattle.std.specs.BTreeMap.{is_at}
use Rattle.std.specs.Cmp.Lexicographic.{texts_ties}
use Rattle.ac_base.specs.Texts.{text_cmp}
use Rattle.std.specs.BTreeSet.{insert_key}
use Rattle.ac_base.proofs.ShownKeys.{insert_key_shown}
use Rattle.ac_query.specs.Texts.{has_text, in_order_with}

pub one_rises : (t : List ℕ) → IsStrictlySortedBy text_cmp (t ∷ [])
unfolding IsStrictlySortedBy
one_rises t = (tt, tt)

module _ {K : Type 0} (f : K → List ℕ) (cmp : K → K → Ordering) (same : (a b : K) → cmp a b ≡ text_cmp (f a) (f b)) where
  -- whether a set has a name
  pub contains_text : (ks : List K) (k : K) → list_any (is_at (cmp k)) ks ≡ has_text (map f ks) (f k)
  contains_text [] k = refl
  contains_text (x ∷ xs) k = ap₂ (λ a b. a || b) (ap is_eq (same k x) ∙ sym (texts_ties (f k) (f x))) (contains_text xs k)

  -- names in order are texts in order
  below_shown : (k : K) (ks : List K) → AllByRecursion (λ x. cmp k x ≡ Less) ks → AllByRecursion (λ t. text_cmp (f k) t ≡ Less) (map f ks)
  below_shown k [] h = tt
  below_shown k (x ∷ xs) h = (sym (same k x) ∙ h.0, below_shown k xs h.1)

  pub rising_shown : (ks : List K) → IsStrictlySortedBy cmp ks → IsStrictlySortedBy text_cmp (map f ks)
  unfolding IsStrictlySortedBy
  rising_shown [] h = tt
  rising_shown (k ∷ ks) h = (below_shown k ks h.0, rising_shown ks h.1)

  -- names that are added to a set
  pub all_shown : (ks xs : List K) → map f (fold (insert_key cmp) ks xs) ≡ in_order_with (map f ks) (map f xs)
  all_shown ks [] = refl
  all_shown ks (x ∷ xs) = all_shown (insert_key cmp ks x) xs ∙ ap (λ ts. in_order_with ts (map f xs)) (insert_key_shown f cmp text_cmp same ks x)

  -- one more of the names that are added to a set, as a copy
  pub adds_copy : (have new left rest : List K) (x y : K) (whole : List (List ℕ)) → left ≡ x ∷ rest → new ≡ insert_key cmp have y → f y ≡ f x
      → in_order_with (map f have) (map f left) ≡ whole → in_order_with (map f new) (map f rest) ≡ whole
  adds_copy have new left rest x y whole turn added same_name holds =
      ap (λ ks. in_order_with (map f ks) (map f rest)) added
      ∙ ap (λ ks. in_order_with ks (map f rest)) (insert_key_shown f cmp text_cmp same have y ∙ ap (insert_key text_cmp (map f have)) same_name)
      ∙ sym (ap (λ l. in_order_with (map f have) (map f l)) turn) ∙ holds

  -- one more of the names that are added to a set
  pub adds_one : (have new left rest : List K) (x : K) (whole : List (List ℕ)) → left ≡ x ∷ rest → new ≡ insert_key cmp have x
      → in_order_with (map f have) (map f left) ≡ whole → in_order_with (map f new) (map f rest) ≡ whole
  adds_one have new left rest x whole turn added holds = adds_copy have new left rest x x whole turn added refl holds
