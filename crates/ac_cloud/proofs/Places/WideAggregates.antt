-- Aggregates of one tree add nothing to a provider of that tree.
use Rattle.ac_cloud.proofs.Common.{◌≡◌, ◌∙◌, ◌<◌, ◌+◌, ℕ, zero, suc, Bool, true, false, List, [], ◌∷◌, length, get_or, refl, sym, ap, ap₂, subst, arith, inl, inr, ◌==◌, ◌&&◌, ◌||◌, not, Vec, nat_cmp, list_any, filter, range_with_len, BTreeMap, cases_Bool, false≢true, list_any_at, or-false, All, get_or-range_with_len, length-range_with_len, is_met, is_among, meets_at, meets, is_joined, joined, is_joining, is_marked, wide, shared_ids, asked_at}
use Rattle.std.specs.BTreeMap.{get}
use Rattle.std.proofs.lemmas.Bool.{false_from_ne_true}
use Rattle.std.proofs.lemmas.List.Elements.{All-filter}
use Rattle.std.proofs.lemmas.List.Sums.{count_by-le-length, length-filter}
use Rattle.ac_cloud.specs.Cloud.Anchors.{roots_in, is_lone}
use Rattle.ac_cloud.proofs.Places.AnchorFacts.{filter_range, one_item}
use Rattle.ac_base.proofs.Small.{are_equal, equal, not_false}
use Rattle.std.proofs.lemmas.Grind.{common_steps}

one_root : (rs : List ℕ) (x y : ℕ) → (length rs == 1) ≡ true → list_any (λ (r : ℕ). r == x) rs ≡ true → list_any (λ (r : ℕ). r == y) rs ≡ true → x ≡ y
one_root [] x y e f g = absurd (cc)
one_root (r ∷ []) x y e f g = grind (arith, are_equal, or-false)
one_root (r ∷ s ∷ rs) x y e f g = absurd (let same = are_equal (length (r ∷ s ∷ rs)) 1 e in omega (arith, same))

-- leaving out what fails a test anyway
any_kept : (p q : ℕ → Bool) (ids : List ℕ) → ((k : ℕ) (d : ℕ) → k < length ids → q (get_or ids k d) ≡ false → p (get_or ids k d) ≡ false) → list_any p (filter q ids) ≡ list_any p ids
any_kept p q [] h = refl
any_kept p q (x ∷ ids) h =
    let rest = any_kept p q ids (λ (k d : ℕ) i. h (suc k) d (omega arith)) in
    elim (cases_Bool (q x)) [
      | inl e ↦ rw e (ap (λ b. p x || b) rest)
      | inr e ↦ rw e (rest ∙ ap (λ b. b || list_any p ids) (sym (h zero x (omega arith) e)))
    ]

-- some pass where all do
any_all : (p : ℕ → Bool) (ids : List ℕ) → 0 < length ids → All (λ a. p a ≡ true) ids → list_any p ids ≡ true
any_all p ids some all = list_any_at p ids 0 0 some (all 0 0 some)

module _ (roots : List ℕ) (aggregates : List (List ℕ)) (groups : BTreeMap ℕ (Vec ℕ)) (gathered : (a r : ℕ) → is_met groups a r ≡ meets roots aggregates (length roots) a r) (j : ℕ) (inside : j < length roots) (own_inside : get_or roots j 0 < length roots) where
  abbrev own : ℕ
  own = get_or roots j 0

  abbrev ids : List ℕ
  ids = get_or aggregates j []

  abbrev met : ℕ → ℕ → Bool
  met r a = meets roots aggregates (length roots) a r

  abbrev lone : ℕ → Bool
  lone a = is_lone (roots_in (get nat_cmp groups a))

  -- a provider is of its own aggregates
  meets_own : (k d : ℕ) → k < length ids → met own (get_or ids k d) ≡ true
  meets_own k d h =
      let here : get_or (range_with_len 0 (length roots)) j 0 ≡ 0 + j = get_or-range_with_len 0 (length roots) j 0 inside in
      let none : 0 + j ≡ j = omega arith in
      let itself : is_among (get_or ids k d) ids ≡ true = list_any_at (λ (a : ℕ). a == get_or ids k d) ids k d h (equal (get_or ids k d) (get_or ids k d) refl) in
      let test : meets_at roots aggregates (get_or ids k d) own j ≡ true = ap₂ (λ a b. a && b) (equal own own refl) itself in
      list_any_at (meets_at roots aggregates (get_or ids k d) own) (range_with_len 0 (length roots)) j 0 (omega (arith, inside, length-range_with_len 0 (length roots))) (ap (meets_at roots aggregates (get_or ids k d) own) (here ∙ none) ∙ test)

  -- at another root an aggregate of one tree meets nothing
  lone_elsewhere : (r : ℕ) → (own == r) ≡ false → (k d : ℕ) → k < length ids → not (lone (get_or ids k d)) ≡ false → met r (get_or ids k d) ≡ false
  lone_elsewhere r apart k d h e = false_from_ne_true (met r (get_or ids k d)) (λ there.
      let one = one_root (roots_in (get nat_cmp groups (get_or ids k d))) own r (not_false (lone (get_or ids k d)) e) (gathered (get_or ids k d) own ∙ meets_own k d h) (gathered (get_or ids k d) r ∙ there) in
      false≢true (sym apart ∙ equal own r one))

  wide_joined : 0 < length (wide groups ids) → joined roots aggregates (wide groups ids) ≡ joined roots aggregates ids
  wide_joined some = filter_range (is_joined roots aggregates (wide groups ids)) (is_joined roots aggregates ids) (length roots) 0 (λ (r : ℕ) h. at r)
    where
      at : (r : ℕ) → is_joined roots aggregates (wide groups ids) r ≡ is_joined roots aggregates ids r
      at r = elim (cases_Bool (own == r)) [
        | inl is ↦
            let same : own ≡ r = are_equal own r is in
            let fewer : 0 < length ids = omega (arith, some, length-filter (λ a. not (lone a)) ids, count_by-le-length (λ a. not (lone a)) ids) in
            subst (λ (s : ℕ). is_joined roots aggregates (wide groups ids) s ≡ is_joined roots aggregates ids s) same
            (any_all (met own) (wide groups ids) some (All-filter (λ a. not (lone a)) (λ a. met own a ≡ true) ids meets_own) ∙ sym (any_all (met own) ids fewer meets_own))
        | inr apart ↦ any_kept (met r) (λ a. not (lone a)) ids (lone_elsewhere r apart)
      ]

  lone_joined : 0 < length ids → wide groups ids ≡ [] → joined roots aggregates ids ≡ get_or roots j 0 ∷ []
  lone_joined some none = filter_range (is_joined roots aggregates ids) (λ (r : ℕ). own == r) (length roots) 0 (λ (r : ℕ) h. at r) ∙ sym (one_item own (length roots) own_inside)
    where
      at : (r : ℕ) → is_joined roots aggregates ids r ≡ (own == r)
      at r = elim (cases_Bool (own == r)) [
        | inl is ↦
            let same : own ≡ r = are_equal own r is in
            subst (λ (s : ℕ). is_joined roots aggregates ids s ≡ (own == s)) same (any_all (met own) ids some meets_own ∙ sym (equal own own refl))
        | inr apart ↦ sym (any_kept (met r) (λ b. not (lone b)) ids (lone_elsewhere r apart)) ∙ ap (list_any (met r)) none ∙ sym apart
      ]

some_of : (b : Bool) (l : List ℕ) → is_joining b l ≡ true → (b ≡ true) × (0 < length l)
some_of b l e = grind (arith, common_steps)

-- what was asked of a provider
module _ (roots : List ℕ) (aggregates : List (List ℕ)) (groups : BTreeMap ℕ (Vec ℕ)) (gathered : (a r : ℕ) → is_met groups a r ≡ meets roots aggregates (length roots) a r)
    (own_inside : (j : ℕ) → j < length roots → get_or roots j 0 < length roots) (sharing : List Bool) (j : ℕ) (inside : j < length roots) (asked : List ℕ) (are : asked ≡ asked_at groups sharing aggregates j) where
  -- its list is that of all its aggregates
  pub asked_joined : is_joining true asked ≡ true → joined roots aggregates asked ≡ joined roots aggregates (get_or aggregates j [])
  asked_joined some = at (get_or sharing j false) are
    where
      at : (b : Bool) → asked ≡ wide groups (shared_ids b (get_or aggregates j [])) → joined roots aggregates asked ≡ joined roots aggregates (get_or aggregates j [])
      at true is =
          ap (joined roots aggregates) is ∙ wide_joined roots aggregates groups gathered j inside (own_inside j inside) (omega (arith, ap length is, (some_of true asked some).1))
      at false is = absurd (let none = (some_of true asked some).1 in omega (arith, ap length is, none))

  -- who has nothing to ask is available in its own tree
  pub asked_alone : is_joining true asked ≡ false → is_marked sharing aggregates j ≡ true → joined roots aggregates (get_or aggregates j []) ≡ get_or roots j 0 ∷ []
  asked_alone nothing marked = grind (arith, lone_joined, some_of)
