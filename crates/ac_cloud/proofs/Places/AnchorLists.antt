-- Lists of roots: rising, kept once, one for each provider.
use Rattle.ac_cloud.proofs.Common.{◌≡◌, ◌∙◌, ◌<◌, ◌≤◌, ◌+◌, ℕ, Bool, true, List, [], ◌∷◌, ◌++◌, length, get_or, Option, Some, None, refl, sym, ap, subst, arith, ◌==◌, IfSome, is_some, unwrap_or, Vec, nat_cmp, list_any, filter, range_with_len, get_or_append_left, get_or-range_with_len, length-range_with_len, BTreeMap, ArePlaces, is_met, meets, is_joined, joined, list_of, AreAsked, is_at, nat_cmp_total, exact_unsigned}
use Rattle.ac_base.proofs.Small.{are_equal, one_more}
use Rattle.ac_cloud.proofs.Places.KeptFacts.{kept_has, kept_rise}
use Rattle.std.proofs.lemmas.Bool.{and_parts}
use Rattle.std.proofs.lemmas.List.{get_or_push, length_push}
use Rattle.std.proofs.lemmas.List.Folds.{Any-from_list_any}
use Rattle.std.proofs.lemmas.Map.Lookups.{btree_set_from_contains}
use Rattle.std_collections.specs.Layout.BTreeSet.{btree_set}
use Rattle.std.specs.List.Sorted.{IsStrictlySortedBy}
use Rattle.ac_base.proofs.Sorted.SearchFacts.{any_same, is_eq_nat}

-- the provider at a place, where it has a list
pub some_place : (places : List (Option ℕ)) (i : ℕ) (Q : ℕ → Type 0) → i < length places → Q i
    → IfSome (get_or places i None) (λ k. (j : ℕ) × (j < length places) × (get_or places j None ≡ Some k) × Q j)
some_place places i Q h q = grind (arith)

-- a rising list is the numbers that are in it
pub rising_filter : (n : ℕ) (p : ℕ → Bool) (xs : List ℕ) → IsStrictlySortedBy nat_cmp xs → ((r : ℕ) → list_any (λ (x : ℕ). x == r) xs ≡ p r) → ((r : ℕ) → p r ≡ true → r < n) → xs ≡ filter p (range_with_len 0 n)
rising_filter n p xs sorted same below =
    btree_set_from_contains nat_cmp_total (btree_set xs) (btree_set (filter p (range_with_len 0 n))) sorted (kept_rise n p)
    (λ q. any_same (is_at (nat_cmp q)) (λ x. x == q) (is_eq_nat q) xs ∙ same q ∙ sym (kept_has n p q (below q))) exact_unsigned

-- an aggregate is met where some provider of it has the root
pub joined_where : (roots : List ℕ) (aggregates : List (List ℕ)) (ids : List ℕ) (r : ℕ) → is_joined roots aggregates ids r ≡ true → (q : ℕ) × (q < length roots) × ((get_or roots q 0 == r) ≡ true)
joined_where roots aggregates ids r h = grind (arith, Any-from_list_any, and_parts, get_or-range_with_len, length-range_with_len)

module _ (roots : List ℕ) (aggregates : List (List ℕ)) (inside : ArePlaces (length roots) roots) where
  joined_below : (ids : List ℕ) (r : ℕ) → is_joined roots aggregates ids r ≡ true → r < length roots
  joined_below ids r h = grind (arith, are_equal, joined_where)

  -- a rising list of what some aggregates met
  pub joined_list : (groups : BTreeMap ℕ (Vec ℕ)) (ids list : List ℕ) → ((a r : ℕ) → is_met groups a r ≡ meets roots aggregates (length roots) a r) → IsStrictlySortedBy nat_cmp list
      → ((r : ℕ) → list_any (λ (x : ℕ). x == r) list ≡ list_any (λ (a : ℕ). is_met groups a r) ids) → list ≡ joined roots aggregates ids
  joined_list groups ids list gathered sorted same = grind (arith, any_same, joined_below, rising_filter)

-- one more provider
pub joined_more : (roots : List ℕ) (aggregates asked : List (List ℕ)) (lists more : List (Vec ℕ)) (places : List (Option ℕ)) (o : Option ℕ) → AreAsked roots aggregates asked lists places
    → length lists ≤ length more → ((k : ℕ) → k < length lists → list_of more k ≡ list_of lists k)
    → ((k : ℕ) → o ≡ Some k → (k < length more) × (list_of more k ≡ joined roots aggregates (get_or asked (length places) [])))
    → AreAsked roots aggregates asked more (places ++ o ∷ [])
joined_more roots aggregates asked lists more places o before rest stay new = λ (j k : ℕ) inside is.
    one_more (λ j. get_or (places ++ o ∷ []) j None ≡ Some k → (k < length more) × (list_of more k ≡ joined roots aggregates (get_or asked j []))) (length places)
    (λ j less is. let old = before j k less (sym (get_or_append_left places (o ∷ []) None j less) ∙ is) in (omega (arith, old.0, rest), stay k old.0 ∙ old.1))
    (λ is. new k (sym (get_or_push places o None (length places) refl) ∙ is)) j (omega (arith, inside, length_push places o)) is

-- one more that has a list, and one that has none
pub joined_some : (roots : List ℕ) (aggregates asked : List (List ℕ)) (lists more : List (Vec ℕ)) (places : List (Option ℕ)) (place : ℕ) (ids : List ℕ) → AreAsked roots aggregates asked lists places
    → length lists ≤ length more → ((k : ℕ) → k < length lists → list_of more k ≡ list_of lists k) → place < length more → list_of more place ≡ joined roots aggregates ids
    → ids ≡ get_or asked (length places) [] → AreAsked roots aggregates asked more (places ++ Some place ∷ [])
joined_some roots aggregates asked lists more places place ids before rest stay inside here is_ids =
    joined_more roots aggregates asked lists more places (Some place) before rest stay
    (λ (k : ℕ) (e : Some place ≡ Some k).
    let same : place ≡ k = ap (λ o. unwrap_or o 0) e in
    (subst (λ (m : ℕ). m < length more) same inside, ap (list_of more) (sym same) ∙ here ∙ ap (joined roots aggregates) is_ids))

pub joined_none : (roots : List ℕ) (aggregates asked : List (List ℕ)) (lists : List (Vec ℕ)) (places : List (Option ℕ)) → AreAsked roots aggregates asked lists places → AreAsked roots aggregates asked lists (places ++ None ∷ [])
joined_none roots aggregates asked lists places before =
    joined_more roots aggregates asked lists lists places None before (omega arith) (λ (k : ℕ) (h : k < length lists). refl) (λ (k : ℕ) (e : None ≡ Some k). absurd (cc))

-- whether it has one
pub marked_more : (places : List (Option ℕ)) (o : Option ℕ) (f : ℕ → Bool) (n : ℕ) → length places ≡ n → ((j : ℕ) → j < n → is_some (get_or places j None) ≡ f j) → is_some o ≡ f n
    → (j : ℕ) → j < n + 1 → is_some (get_or (places ++ o ∷ []) j None) ≡ f j
marked_more places o f n size before here = grind (arith, get_or_append_left, get_or_push, one_more)
