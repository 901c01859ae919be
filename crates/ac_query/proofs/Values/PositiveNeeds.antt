-- The needs that a text says: amounts are at least 1, and no class stands twice.
use Rattle.std.proofs.Common.{◌≡◌, ◌<◌, ◌==◌, ℕ, Bool, true, false, List, [], ◌∷◌, map, Option, Some, None, IfSome, if◌then◌else◌, ap, ◌∙◌, arith, rules, refl, suc}
use Rattle.std.specs.Bool.{⊤}
use Rattle.std.specs.declared.cmp.Ordering.TheVariants.{Less}
use Rattle.std.specs.Ordering.{is_eq}
use Rattle.std.specs.List.{All, AllByRecursion, fold, before_first, after_first}
use Rattle.std.specs.List.Sorted.{IsStrictlySortedBy}
use Rattle.std.specs.Map.{keys_of}
use Rattle.std.specs.Map as entries
use Rattle.std.specs.BTreeMap.{insert_entry}
use Rattle.std.specs.Str.{bytes_eq}
use Rattle.std.specs.Cmp.Lexicographic.{texts_ties}
use Rattle.std.proofs.lemmas.Cmp.{nat_list_cmp_total}
use Rattle.std.proofs.lemmas.Map.Views.{All-values-insert_entry}
use Rattle.ac_base.specs.Texts.{text_cmp, name_value, count_value}
use Rattle.ac_base.specs.Sorted.{map_of}
use Rattle.ac_base.proofs.Sorted.SameItems.{map_rises}
use Rattle.ac_query.specs.Texts.{is_colon, items_of}
use Rattle.ac_query.specs.Pairs.Values.{values_of, list_value, positive, amount_value, need_of, has_colon, need_value, are_apart, by_class, needs_value}
use Rattle.ac_query.specs.Laws.InOrder.{AreApart, AreNeeds}
use Rattle.ac_query.proofs.Values.Choosing.{any_some, then_some, map_some, either_some}

-- ---- an item
positive_is : (n : ℕ) → IfSome (positive n) (λ m. 0 < m)
positive_is n = by_test (n == 0) refl
  where
    by_test : (b : Bool) → (n == 0) ≡ b → IfSome (if b then None else Some n) (λ m. 0 < m)
    by_test true is = tt
    by_test false is = search (arith, rules)

amount_is : (text : List ℕ) → IfSome (amount_value text) (λ n. 0 < n)
unfolding amount_value
amount_is text = then_some (λ n. ⊤) (λ n. 0 < n) positive (count_value text) (any_some (count_value text)) (λ n h. positive_is n)

need_is : (item : List ℕ) → IfSome (need_value item) (λ need. 0 < need.1)
unfolding need_value
need_is item = either_some (λ need. 0 < need.1) (has_colon item) _ None of tt
  where
    of : IfSome (need_of (before_first is_colon item) (after_first is_colon item)) (λ need. 0 < need.1)
    of = then_some (λ c. ⊤) (λ need. 0 < need.1) _ (name_value (before_first is_colon item)) (any_some (name_value (before_first is_colon item)))
        (λ c h. map_some (λ n. 0 < n) (λ need. 0 < need.1) (λ n. (c, n)) (amount_value (after_first is_colon item)) (amount_is (after_first is_colon item)) (λ n k. k))

-- ---- texts that rise are different
differ_below : (t : List ℕ) (ts : List (List ℕ)) → AllByRecursion (λ s. text_cmp t s ≡ Less) ts → AllByRecursion (λ s. bytes_eq t s ≡ false) ts
differ_below t [] all = tt
differ_below t (s ∷ ts) all = (texts_ties t s ∙ ap is_eq all.0, differ_below t ts all.1)

pub apart_from_sorted : (ts : List (List ℕ)) → IsStrictlySortedBy text_cmp ts → AreApart ts
unfolding IsStrictlySortedBy
apart_from_sorted [] sorted = tt
apart_from_sorted (t ∷ ts) sorted = (differ_below t ts sorted.0, apart_from_sorted ts sorted.1)

positive_all : (needs : List (List ℕ × ℕ)) → All (λ n. 0 < n) (entries.values_of needs) → AllByRecursion (λ need. 0 < need.1) needs
positive_all [] all = tt
positive_all (need ∷ needs) all = (all 0 0 (omega arith), positive_all needs (λ i d h. all (suc i) d (omega (arith, h))))

-- ---- all items
values_hold : {X : Type 0} (P : X → Type 0) (value : List ℕ → Option X) → ((t : List ℕ) → IfSome (value t) P) → (ts : List (List ℕ)) → IfSome (values_of value ts) (AllByRecursion P)
values_hold P value h [] = tt
values_hold P value h (t ∷ ts) =
    then_some P (AllByRecursion P) _ (value t) (h t) (λ v k. map_some (AllByRecursion P) (AllByRecursion P) (λ vs. v ∷ vs) (values_of value ts) (values_hold P value h ts) (λ vs all. (k, all)))

amounts_hold : (m needs : List (List ℕ × ℕ)) → All (λ n. 0 < n) (entries.values_of m) → AllByRecursion (λ need. 0 < need.1) needs
    → All (λ n. 0 < n) (entries.values_of (fold (λ m need. insert_entry text_cmp m need.0 need.1) m needs))
amounts_hold m [] h all = h
amounts_hold m (need ∷ needs) h all = amounts_hold (insert_entry text_cmp m need.0 need.1) needs (All-values-insert_entry text_cmp need.0 need.1 (λ n. 0 < n) m h all.0) all.1

are_needs : (needs : List (List ℕ × ℕ)) → AllByRecursion (λ need. 0 < need.1) needs → AreNeeds (map_of needs)
are_needs needs all = record {
  positive = positive_all (map_of needs) (amounts_hold [] needs (λ i d h. absurd (omega (arith, h))) all);
  once = apart_from_sorted (keys_of (map_of needs)) (map_rises nat_list_cmp_total needs);
}

pub needs_are : (text : List ℕ) → IfSome (needs_value text) AreNeeds
unfolding needs_value
needs_are text =
    then_some (AllByRecursion (λ need. 0 < need.1)) AreNeeds by_class (list_value need_value text) (values_hold _ need_value need_is (items_of text))
    (λ needs all. either_some AreNeeds (are_apart [] (map (λ n. n.0) needs)) (Some (map_of needs)) None (are_needs needs all) tt)
