-- Sets and maps in the order of their keys: what they have of the items that they are gathered of, and that those with the same items are equal.
use Rattle.std.proofs.Common.{◌≡◌, ◌∙◌, ◌||◌, arith, ◌==◌, ◌++◌, ℕ, Bool, true, false, List, [], ◌∷◌, map, reverse, Option, Some, None, Contains, fold, Ordering, Less, Equal, Greater, refl, sym, ap, inl, if◌then◌else◌, is_eq, nat_cmp, is_some, IsSome, bytes_eq}
use Rattle.std.specs.Ordering.{eq_by_cmp, match_ordering}
use Rattle.std.specs.Cmp.{IsTotalOrder, both_ways}
use Rattle.std.specs.List.{list_any}
use Rattle.std.specs.List.Sorted.{IsStrictlySortedBy}
use Rattle.std.specs.Map.{lookup, keys_of}
use Rattle.std.specs.BTreeMap.{is_at, insert_entry}
use Rattle.std.specs.BTreeSet.{insert_key}
use Rattle.std.proofs.Math.Bool.{or-false}
use Rattle.std.proofs.lemmas.Cmp.{nat_cmp_total, alike_right, eq_by_cmp_equiv, tied_back}
use Rattle.std.proofs.lemmas.List.Sorted.{Contains-permutation, IsPermutation-sym, IsPermutation-reverse}
use Rattle.std.proofs.lemmas.Map.Keys.{IsDistinct-from_sorted}
use Rattle.ac_base.specs.Sorted.{rising, is_one_of}
use Rattle.ac_base.specs.Texts.{text_cmp}
use Rattle.std.proofs.lemmas.Map.Text.{is_eq-slice_cmp}
use Rattle.std.proofs.lemmas.Cmp.{nat_list_cmp_total}
use Rattle.std.proofs.lemmas.List.{get_or-map}
use Rattle.std.specs.Option.{option_or}
use Rattle.std_collections.specs.Layout.BTreeMap.{btree_map}
use Rattle.std_collections.specs.Layout.BTreeSet.{btree_set}
use Rattle.std.proofs.lemmas.List.{reverse-append, length-map}
use Rattle.std.proofs.lemmas.Map.Lookups.{CmpEqualImpliesEq, btree_map_from_get, btree_set_from_contains}
use Rattle.std.proofs.lemmas.Map.Views.{Contains-from_any, list_any-from_Contains, Contains-from_lookup, lookup-from_Contains, IsSome-lookup_from_Contains, tells_apart}
use Rattle.ac_base.proofs.Sorted.SearchFacts.{any_same, is_eq_nat}
use Rattle.ac_base.proofs.Sorted.SortedSets.{rising_sorted}
use Rattle.ac_base.proofs.Small.{or_again, or_grouped, or_swapped}

-- what is made of an item stands among what is made of all
pub map_has : {X Y : Type 0} (f : X → Y) (xs : List X) (x : X) → Contains xs x → Contains (map f xs) (f x)
map_has f xs x c = (c.0, (let i = c.1 in let s = length-map xs f in omega (arith, i, s)), get_or-map f xs c.0 x (f x) c.1 ∙ ap f c.2)

-- ---- sets
module _ {K : Type 0} {R : K → K → Ordering} (o : IsTotalOrder R) where
  abbrev has : K → List K → Bool
  has q ks = list_any (is_at (R q)) ks

  pub has_inserted : (q : K) (ks : List K) (k : K) → list_any (is_at (R q)) (insert_key R ks k) ≡ (is_at (R q) k || list_any (is_at (R q)) ks)
  has_inserted q [] k = refl
  has_inserted q (y ∷ ks) k = by_order (R k y) refl (has_inserted q ks k)
    where
      by_order : (r : Ordering) → R k y ≡ r → has q (insert_key R ks k) ≡ (is_at (R q) k || has q ks)
          → has q (match_ordering r (k ∷ y ∷ ks) (y ∷ ks) (y ∷ insert_key R ks k)) ≡ (is_at (R q) k || has q (y ∷ ks))
      by_order Less is later = refl
      by_order Equal is later = or_again (is_at (R q) y) (has q ks) ∙ ap (λ r. is_eq r || has q (y ∷ ks)) (sym (alike_right o k y q is))
      by_order Greater is later = ap (λ b. is_at (R q) y || b) later ∙ or_swapped (is_at (R q) y) (is_at (R q) k) (has q ks)

  has_gathered : (q : K) (ks xs : List K) → has q (fold (insert_key R) ks xs) ≡ (has q xs || has q ks)
  has_gathered q ks [] = refl
  has_gathered q ks (x ∷ xs) =
      has_gathered q (insert_key R ks x) xs
      ∙ ap (λ b. has q xs || b) (has_inserted q ks x)
      ∙ or_swapped (has q xs) (is_at (R q) x) (has q ks)
      ∙ or_grouped (is_at (R q) x) (has q xs) (has q ks)

  -- a set has just what it is gathered of
  pub any_rising : (q : K) (xs : List K) → list_any (is_at (R q)) (rising R xs) ≡ list_any (is_at (R q)) xs
  any_rising q xs = has_gathered q [] xs ∙ or-false (has q xs)

  module _ (exact : CmpEqualImpliesEq R) where
    there : (ks : List K) (q : K) → Contains ks q → has q ks ≡ true
    there ks q c = list_any-from_Contains (eq_by_cmp_equiv o) q ks c

    found : (ks : List K) (q : K) → has q ks ≡ true → Contains ks q
    found ks q e = Contains-from_any {eq = eq_by_cmp R} (tells_apart exact) q ks e

    -- the set of these items, if it rises and has the same
    pub is_rising : (ks xs : List K) → IsStrictlySortedBy R ks → ((x : K) → Contains ks x → Contains xs x) → ((x : K) → Contains xs x → Contains ks x) → ks ≡ rising R xs
    is_rising ks xs sorted known all =
        btree_set_from_contains o (btree_set ks) (btree_set (rising R xs)) sorted (rising_sorted o xs)
        (λ q. both_ways _ _ (λ e. there xs q (known q (found ks q e))) (λ e. there ks q (all q (found xs q e))) ∙ sym (any_rising q xs)) exact

-- the same of numbers
pub member_rising : (q : ℕ) (xs : List ℕ) → is_one_of (rising nat_cmp xs) q ≡ is_one_of xs q
member_rising q xs =
    any_same (λ p. p == q) (is_at (nat_cmp q)) (λ p. sym (is_eq_nat q p)) (rising nat_cmp xs)
    ∙ any_rising nat_cmp_total q xs
    ∙ any_same (is_at (nat_cmp q)) (λ p. p == q) (is_eq_nat q) xs

-- the same of names
pub name_rising : (q : List ℕ) (names : List (List ℕ)) → list_any (bytes_eq q) (rising text_cmp names) ≡ list_any (bytes_eq q) names
name_rising q names =
    any_same (bytes_eq q) (is_at (text_cmp q)) (λ n. sym (is_eq-slice_cmp q n)) (rising text_cmp names)
    ∙ any_rising nat_list_cmp_total q names
    ∙ any_same (is_at (text_cmp q)) (bytes_eq q) (is_eq-slice_cmp q) names

-- ---- maps
map_match : {A B : Type 0} (f : A → B) (r : Ordering) (x y z : List A) → map f (match_ordering r x y z) ≡ match_ordering r (map f x) (map f y) (map f z)
map_match f Less x y z = refl
map_match f Equal x y z = refl
map_match f Greater x y z = refl

-- the keys of a map are a set in the same order
insert_keys : {K X : Type 0} (R : K → K → Ordering) (es : List (K × X)) (k : K) (v : X) → keys_of (insert_entry R es k v) ≡ insert_key R (keys_of es) k
insert_keys R [] k v = refl
insert_keys {K} {X} R (e ∷ es) k v =
    map_match (λ (d : K × X). d.0) (R k e.0) ((k, v) ∷ e ∷ es) ((e.0, v) ∷ es) (e ∷ insert_entry R es k v)
    ∙ ap (λ l. match_ordering (R k e.0) (k ∷ e.0 ∷ keys_of es) (e.0 ∷ keys_of es) (e.0 ∷ l)) (insert_keys R es k v)

module _ {K X : Type 0} {R : K → K → Ordering} (o : IsTotalOrder R) where
  abbrev pub value_at : K → List (K × X) → Option X
  value_at q es = lookup (is_at (R q)) es

  -- the value of a key after an insertion is the new one where it is that key
  pub value_after : (q : K) (m : List (K × X)) (k : K) (v : X) → value_at q (insert_entry R m k v) ≡ (if is_at (R q) k then Some v else value_at q m)
  value_after q [] k v = refl
  value_after q (e ∷ es) k v = by_order (R k e.0) refl (value_after q es k v)
    where
      hidden : (b : Bool) (x y : X) (w : Option X) → (if b then Some x else w) ≡ (if b then Some x else if b then Some y else w)
      hidden true x y w = refl
      hidden false x y w = refl

      turned : (b c : Bool) (x y : X) (w : Option X) → (b ≡ true → c ≡ true → ⊥) → (if b then Some x else if c then Some y else w) ≡ (if c then Some y else if b then Some x else w)
      turned true true x y w apart = absurd (apart refl refl)
      turned true false x y w apart = refl
      turned false true x y w apart = refl
      turned false false x y w apart = refl

      tied : (r : Ordering) → is_eq r ≡ true → r ≡ Equal
      tied Less e = absurd (cc)
      tied Equal e = refl
      tied Greater e = absurd (cc)

      by_order : (r : Ordering) → R k e.0 ≡ r → value_at q (insert_entry R es k v) ≡ (if is_at (R q) k then Some v else value_at q es)
          → value_at q (match_ordering r ((k, v) ∷ e ∷ es) ((e.0, v) ∷ es) (e ∷ insert_entry R es k v)) ≡ (if is_at (R q) k then Some v else value_at q (e ∷ es))
      by_order Less is later = refl
      by_order Equal is later = hidden (is_at (R q) e.0) v e.1 (value_at q es) ∙ ap (λ r. if is_eq r then Some v else value_at q (e ∷ es)) (sym (alike_right o k e.0 q is))
      by_order Greater is later =
          ap (λ w. if is_at (R q) e.0 then Some e.1 else w) later
          ∙ turned (is_at (R q) e.0) (is_at (R q) k) e.1 v (value_at q es) (λ a b.
          let same : R k e.0 ≡ Equal = sym (alike_right o q e.0 k (tied (R q e.0) a)) ∙ tied_back o q k (tied (R q k) b) in
          cc)

  -- a key is there after an insertion where it is the new one, or was there
  pub there_after : (q : K) (m : List (K × X)) (k : K) (v : X) → is_some (lookup (is_at (R q)) (insert_entry R m k v)) ≡ (is_at (R q) k || is_some (lookup (is_at (R q)) m))
  there_after q m k v = ap is_some (value_after q m k v) ∙ at (is_at (R q) k)
    where
      at : (b : Bool) → is_some (if b then Some v else value_at q m) ≡ (b || is_some (value_at q m))
      at true = refl
      at false = refl

  value_behind : (q : K) (xs : List (K × X)) (p : K × X) (w : Option X) → option_or (value_at q (xs ++ p ∷ [])) w ≡ option_or (value_at q xs) (if is_at (R q) p.0 then Some p.1 else w)
  value_behind q [] p w = at (is_at (R q) p.0)
    where
      at : (b : Bool) → option_or (if b then Some p.1 else None) w ≡ (if b then Some p.1 else w)
      at true = refl
      at false = refl
  value_behind q (x ∷ xs) p w = at (is_at (R q) x.0) (value_behind q xs p w)
    where
      at : (b : Bool) → option_or (value_at q (xs ++ p ∷ [])) w ≡ option_or (value_at q xs) (if is_at (R q) p.0 then Some p.1 else w)
          → option_or (if b then Some x.1 else value_at q (xs ++ p ∷ [])) w ≡ option_or (if b then Some x.1 else value_at q xs) (if is_at (R q) p.0 then Some p.1 else w)
      at true later = refl
      at false later = later

  value_gathered : (q : K) (m pairs : List (K × X)) → value_at q (fold (λ m p. insert_entry R m p.0 p.1) m pairs) ≡ option_or (value_at q (reverse pairs)) (value_at q m)
  value_gathered q m [] = refl
  value_gathered q m (p ∷ pairs) =
      value_gathered q (insert_entry R m p.0 p.1) pairs
      ∙ ap (option_or (value_at q (reverse pairs))) (value_after q m p.0 p.1)
      ∙ sym (value_behind q (reverse pairs) p (value_at q m))
      ∙ ap (λ l. option_or (value_at q l) (value_at q m)) (sym (reverse-append (p ∷ []) pairs))

  -- the value of a key is the last that it is given
  pub last_given : (q : K) (pairs : List (K × X)) → lookup (is_at (R q)) (fold (λ m p. insert_entry R m p.0 p.1) [] pairs) ≡ lookup (is_at (R q)) (reverse pairs)
  last_given q pairs = value_gathered q [] pairs ∙ no_other (value_at q (reverse pairs))
    where
      no_other : (w : Option X) → option_or w None ≡ w
      no_other None = refl
      no_other (Some v) = refl

  pub keys_gathered : (m pairs : List (K × X)) → keys_of (fold (λ m p. insert_entry R m p.0 p.1) m pairs) ≡ fold (insert_key R) (keys_of m) (keys_of pairs)
  keys_gathered m [] = refl
  keys_gathered m (p ∷ pairs) = keys_gathered (insert_entry R m p.0 p.1) pairs ∙ ap (λ l. fold (insert_key R) l (keys_of pairs)) (insert_keys R m p.0 p.1)

  pub map_rises : (pairs : List (K × X)) → IsStrictlySortedBy R (keys_of (fold (λ m p. insert_entry R m p.0 p.1) [] pairs))
  map_rises pairs = rw (keys_gathered [] pairs) (rising_sorted o (keys_of pairs))

  module _ (exact : CmpEqualImpliesEq R) where
    same_value : (q : K) (es fs : List (K × X)) → IsStrictlySortedBy R (keys_of es) → ((e : K × X) → Contains es e → Contains fs e) → ((e : K × X) → Contains fs e → Contains es e)
        → value_at q es ≡ value_at q fs
    same_value q es fs sorted known all = by_value (value_at q fs) refl
      where
        missing : (w : Option X) → value_at q es ≡ w → value_at q fs ≡ None → w ≡ None
        missing None e f = refl
        missing (Some v) e f =
            let c = known (q, v) (Contains-from_lookup {eq = eq_by_cmp R} (tells_apart exact) q v es e) in
            let some : IsSome (value_at q fs) = IsSome-lookup_from_Contains (eq_by_cmp_equiv o) q fs (map_has (λ e. e.0) fs (q, v) c) in
            absurd (cc)

        by_value : (w : Option X) → value_at q fs ≡ w → value_at q es ≡ value_at q fs
        by_value (Some w) f =
            lookup-from_Contains (eq_by_cmp_equiv o) q w es (IsDistinct-from_sorted R (keys_of es) sorted) (all (q, w) (Contains-from_lookup {eq = eq_by_cmp R} (tells_apart exact) q w fs f)) ∙ sym f
        by_value None f = missing (value_at q es) refl f ∙ sym f

    -- the map of these pairs, if its keys rise and it has the same
    pub is_map : (es pairs : List (K × X)) → IsStrictlySortedBy R (keys_of es) → ((e : K × X) → Contains es e → Contains pairs e) → ((e : K × X) → Contains pairs e → Contains es e)
        → es ≡ fold (λ m p. insert_entry R m p.0 p.1) [] pairs
    is_map es pairs sorted known all =
        let turned = IsPermutation-reverse pairs in
        btree_map_from_get o (btree_map es (inl tt)) (btree_map (fold (λ m p. insert_entry R m p.0 p.1) [] pairs) (inl tt)) sorted (map_rises pairs)
        (λ q. same_value q es (reverse pairs) sorted (λ e c. Contains-permutation pairs (reverse pairs) e turned (known e c))
        (λ e c. all e (Contains-permutation (reverse pairs) pairs e (IsPermutation-sym pairs (reverse pairs) turned) c)) ∙ sym (last_given q pairs)) exact
