-- The roots of the trees in which a provider is available.
use Rattle.ac_cloud.proofs.Common.{◌≡◌, ◌∙◌, ◌<◌, ◌+◌, ℕ, zero, suc, Bool, true, false, List, [], ◌∷◌, length, get_or, None, Some, inl, inr, refl, sym, ap, ap₂, arith, ◌==◌, ◌&&◌, ◌||◌, codes, if◌then◌else◌, is_some, cases_Bool, list_of, bytes_eq, nat_cmp, list_any, filter, range_with_len, list_any_at, get_or-range_with_len, length-range_with_len, parent_in, trait_bytes, lists_of, is_among, meets_at, meets, is_joined, joined, is_joining, is_marked, Provider, no_provider, provider_at, id_at, root_of, is_root, is_available_at, anchors_of, providers_of, Cloud, or-false}
use Rattle.std.specs.List.Sorted.{IsStrictlySortedBy}
use Rattle.ac_cloud.specs.World.{shares, is_associated, have_common_aggregate}
use Rattle.std.proofs.lemmas.List.Folds.{list_any_none}
use Rattle.std.proofs.lemmas.List.FromFn.{fill_by_all}
use Rattle.ac_base.proofs.Sorted.SearchFacts.{any_map, any_or, any_swap}
use Rattle.ac_cloud.proofs.Places.CloudFacts.{traits_here, aggregates_here, size, parent_is, root_inside, root_here, parts}
use Rattle.ac_cloud.proofs.Places.AvailableFacts.{root_test, root_here as root_is_here}
use Rattle.ac_cloud.proofs.Places.AnchorLists.{joined_where, rising_filter}
use Rattle.std.proofs.lemmas.Grind.{common_steps}

-- a test of the items of a list is a test of its places
any_places : {A : Type 0} (f : A → Bool) (xs : List A) (d : A) → list_any f xs ≡ list_any (λ (q : ℕ). f (get_or xs q d)) (range_with_len 0 (length xs))
any_places f xs d =
    let numbers = range_with_len 0 (length xs) in
    ap (list_any f) (fill_by_all (λ q. get_or xs q d) xs (length xs) d refl (λ q h. refl)) ∙ sym (any_map (λ q. f (get_or xs q d)) f (λ q. get_or xs q d) (λ q. refl) numbers)

-- equal tests of the numbers below n
any_range : (p q : ℕ → Bool) (n a : ℕ) → ((i : ℕ) → i < a + n → p i ≡ q i) → list_any p (range_with_len a n) ≡ list_any q (range_with_len a n)
any_range p q zero a same = refl
any_range p q (suc n) a same = ap₂ (λ b c. b || c) (same a (omega arith)) (any_range p q n (a + 1) (λ (i : ℕ) (h : i < a + 1 + n). same i (omega (arith, h))))

pub filter_range : (p q : ℕ → Bool) (n a : ℕ) → ((i : ℕ) → i < a + n → p i ≡ q i) → filter p (range_with_len a n) ≡ filter q (range_with_len a n)
filter_range p q zero a same = refl
filter_range p q (suc n) a same =
    let rest = filter_range p q n (a + 1) (λ (i : ℕ) (h : i < a + 1 + n). same i (omega (arith, h))) in
    ap₂ (λ b l. if b then a ∷ l else l) (same a (omega arith)) rest

alone : (x : ℕ) → IsStrictlySortedBy nat_cmp (x ∷ [])
unfolding IsStrictlySortedBy
alone x = (tt, tt)

pub one_item : (x n : ℕ) → x < n → (x ∷ []) ≡ filter (λ (r : ℕ). x == r) (range_with_len 0 n)
one_item x n h = rising_filter n (λ (r : ℕ). x == r) (x ∷ []) (alone x) (λ (r : ℕ). or-false (x == r)) (λ (r : ℕ) (e : (x == r) ≡ true). below x r n h e)
  where
    below : (x r n : ℕ) → x < n → (x == r) ≡ true → r < n
    below x r n h e = grind (arith, h, e)

-- what the three tests of availability come to
by_root : (r e s j : Bool) → (s && j) ≡ false → (e ≡ true → r ≡ true) → (r && (e || (s && j))) ≡ e
by_root r e s j none up = grind (arith, common_steps, cases_Bool)

by_join : (r e s j : Bool) → s ≡ true → (e ≡ true → j ≡ true) → (j ≡ true → r ≡ true) → (r && (e || (s && j))) ≡ j
by_join r e s j sharing own up = grind (arith, common_steps, cases_Bool)

module _ (c : Cloud) where
  abbrev all : List Provider
  all = providers_of c

  abbrev roots : List ℕ
  roots = c.roots.items

  abbrev groups : List (List ℕ)
  groups = lists_of c.aggregates

  at_place : (ix : ℕ) → ix < length c.ids.ids.items → (provider_at (providers_of c) ix).aggregates ≡ get_or groups ix []
  at_place ix h = sym (aggregates_here c ix h)

  -- a provider's root is a root
  is_top : (q r : ℕ) → q < length c.ids.ids.items → r < length c.ids.ids.items → (get_or roots q 0 == r) ≡ true → is_root (providers_of c) (id_at (providers_of c) r) ≡ true
  is_top q r hq hr e =
      let same : get_or roots q 0 ≡ r = grind (arith, e) in
      let ends : parent_in c.parents.items r ≡ None = ap (parent_in c.parents.items) (sym same) ∙ (parts c).forest.ends q hq in
      root_is_here c r (parent_in c.parents.items r) hr (parent_is c r (parent_in c.parents.items r) hr refl).0 (ap is_some ends)

  same_root : (q r : ℕ) → q < length c.ids.ids.items → r < length c.ids.ids.items → (root_of (providers_of c) (id_at (providers_of c) q) == id_at (providers_of c) r) ≡ (get_or roots q 0 == r)
  same_root q r hq hr = root_test c q (get_or roots q 0) r (root_inside c q hq) hr (root_here c q hq)

  associated : (ix r : ℕ) → ix < length c.ids.ids.items → r < length c.ids.ids.items
      → is_associated (providers_of c) (provider_at (providers_of c) ix) (id_at (providers_of c) r) ≡ is_joined roots groups (get_or groups ix []) r
  associated ix r h hr =
      let test = λ (q : Provider). (root_of all q.id == id_at all r) && have_common_aggregate (provider_at all ix) q in
      let sized : length all ≡ length roots = size c ∙ sym (parts c).forest.with_roots in
      any_places test all no_provider
      ∙ any_range (λ (q : ℕ). test (get_or all q no_provider)) (λ (q : ℕ). (get_or roots q 0 == r) && list_any (λ (a : ℕ). is_among a (get_or groups q [])) (get_or groups ix [])) (length all) 0
      (λ (q : ℕ) (below : q < 0 + length all).
      let hq : q < length c.ids.ids.items = omega (arith, below, size c) in
      ap₂ (λ a b. a && b) (same_root q r hq hr) (ap₂ (λ (l m : List ℕ). list_any (λ (a : ℕ). is_among a l) m) (at_place q hq) (at_place ix h)))
      ∙ ap (λ (n : ℕ). list_any (λ (q : ℕ). (get_or roots q 0 == r) && list_any (λ (a : ℕ). is_among a (get_or groups q [])) (get_or groups ix [])) (range_with_len 0 n)) sized
      ∙ any_swap (λ (q : ℕ). get_or roots q 0 == r) (λ (q a : ℕ). is_among a (get_or groups q [])) (range_with_len 0 (length roots)) (get_or groups ix [])

  -- where some aggregate joins, there is a root
  joined_root : (ids : List ℕ) (r : ℕ) → r < length c.ids.ids.items → is_joined roots groups ids r ≡ true → is_root (providers_of c) (id_at (providers_of c) r) ≡ true
  joined_root ids r hr j =
      let q = joined_where roots groups ids r j in
      is_top q.0 r (omega (arith, q.1, (parts c).forest.with_roots)) hr q.2

  -- who belongs to some aggregate joins its own root
  joins_own : (ix r : ℕ) (a : ℕ) (ids : List ℕ) → ix < length c.ids.ids.items → get_or groups ix [] ≡ a ∷ ids → (get_or roots ix 0 == r) ≡ true → is_joined roots groups (a ∷ ids) r ≡ true
  joins_own ix r a ids h is e =
      let h2 : ix < length roots = omega (arith, h, (parts c).forest.with_roots) in
      let here : get_or (range_with_len 0 (length roots)) ix 0 ≡ 0 + ix = get_or-range_with_len 0 (length roots) ix 0 h2 in
      let none : 0 + ix ≡ ix = omega arith in
      let itself : (a == a) ≡ true = grind arith in
      let test : meets_at roots groups a r ix ≡ true = ap₂ (λ b l. b && is_among a l) e is ∙ ap (λ b. b || is_among a ids) itself in
      let met : meets roots groups (length roots) a r ≡ true =
      list_any_at (meets_at roots groups a r) (range_with_len 0 (length roots)) ix 0 (omega (arith, h2, length-range_with_len 0 (length roots))) (ap (meets_at roots groups a r) (here ∙ none) ∙ test) in
      ap (λ b. b || is_joined roots groups ids r) met

  pub shares_here : (ix : ℕ) → ix < length c.ids.ids.items → shares (provider_at (providers_of c) ix) ≡ get_or c.sharing.items ix false
  shares_here ix h =
      let text = codes "MISC_SHARES_VIA_AGGREGATE" in
      ap (list_any (bytes_eq (codes "MISC_SHARES_VIA_AGGREGATE"))) (sym (traits_here c ix h))
      ∙ sym (any_map (λ n. bytes_eq (codes "MISC_SHARES_VIA_AGGREGATE") (trait_bytes n)) (bytes_eq (codes "MISC_SHARES_VIA_AGGREGATE")) trait_bytes (λ n. refl) (get_or (lists_of c.traits) ix []))
      ∙ sym ((parts c).shared ix h)

  -- who doesn't share through an aggregate is available in its own tree
  pub anchors_alone : (ix : ℕ) → ix < length c.ids.ids.items → is_marked c.sharing.items groups ix ≡ false → (get_or roots ix 0 ∷ []) ≡ anchors_of (providers_of c) ix
  anchors_alone ix h none =
      one_item (get_or roots ix 0) (length c.ids.ids.items) (root_inside c ix h)
      ∙ filter_range (λ (r : ℕ). get_or roots ix 0 == r) (is_available_at (providers_of c) ix) (length c.ids.ids.items) 0
      (λ (r : ℕ) (below : r < 0 + length c.ids.ids.items).
      let hr : r < length c.ids.ids.items = omega (arith, below) in
      sym (ap₂ (λ e j. is_root all (id_at all r) && (e || j)) (same_root ix r h hr) (ap₂ (λ s j. s && j) (shares_here ix h) (associated ix r h hr))
      ∙ by_root (is_root all (id_at all r)) (get_or roots ix 0 == r) (get_or c.sharing.items ix false) (is_joined roots groups (get_or groups ix []) r)
      (no_join (get_or c.sharing.items ix false) (get_or groups ix []) r none) (is_top ix r h hr)))
      ∙ ap (λ (n : ℕ). filter (is_available_at (providers_of c) ix) (range_with_len 0 n)) (sym (size c))
    where
      no_join : (s : Bool) (ids : List ℕ) (r : ℕ) → is_joining s ids ≡ false → (s && is_joined roots groups ids r) ≡ false
      no_join s ids r e = grind (arith, common_steps)

  -- who does is available where its aggregates join
  pub anchors_joined : (ix : ℕ) → ix < length c.ids.ids.items → is_marked c.sharing.items groups ix ≡ true → joined roots groups (get_or groups ix []) ≡ anchors_of (providers_of c) ix
  anchors_joined ix h marked =
      filter_range (is_joined roots groups (get_or groups ix [])) (is_available_at (providers_of c) ix) (length roots) 0
      (λ (r : ℕ) (below : r < 0 + length roots).
      let hr : r < length c.ids.ids.items = omega (arith, below, (parts c).forest.with_roots) in
      let parts = some_aggregate (get_or c.sharing.items ix false) (get_or groups ix []) marked in
      sym (ap₂ (λ e j. is_root all (id_at all r) && (e || j)) (same_root ix r h hr) (ap₂ (λ s j. s && j) (shares_here ix h) (associated ix r h hr))
      ∙ by_join (is_root all (id_at all r)) (get_or roots ix 0 == r) (get_or c.sharing.items ix false) (is_joined roots groups (get_or groups ix []) r)
      parts.0
      (λ e. ap (λ l. is_joined roots groups l r) parts.1.1.1 ∙ joins_own ix r parts.1.0 parts.1.1.0 h parts.1.1.1 e)
      (joined_root (get_or groups ix []) r hr)))
      ∙ ap (λ (n : ℕ). filter (is_available_at (providers_of c) ix) (range_with_len 0 n)) ((parts c).forest.with_roots ∙ sym (size c))
    where
      some_aggregate : (s : Bool) (ids : List ℕ) → is_joining s ids ≡ true → (s ≡ true) × ((a : ℕ) × ((rest : List ℕ) × (ids ≡ a ∷ rest)))
      some_aggregate s ids e = grind (arith, common_steps)

  -- the list of one that has its roots in a list
  pub anchors_listed : (ix k : ℕ) → ix < length c.ids.ids.items → get_or c.anchors.places.items ix None ≡ Some k
      → (k < length c.anchors.lists.items) × (list_of c.anchors.lists.items k ≡ anchors_of (providers_of c) ix)
  anchors_listed ix k h here =
      let list = (parts c).joined ix k (omega (arith, h, (parts c).with_anchors)) here in
      (list.0, list.1 ∙ anchors_joined ix h ((parts c).marked ix h (ap is_some here)))

  -- the root of one that has none
  pub anchors_unlisted : (ix : ℕ) → ix < length c.ids.ids.items → get_or c.anchors.places.items ix None ≡ None → (get_or roots ix 0 ∷ []) ≡ anchors_of (providers_of c) ix
  anchors_unlisted ix h here = elim (cases_Bool (is_marked c.sharing.items groups ix)) [
    | inl marked ↦ sym ((parts c).alone ix h (ap is_some here) marked) ∙ anchors_joined ix h marked
    | inr not ↦ anchors_alone ix h not
  ]
