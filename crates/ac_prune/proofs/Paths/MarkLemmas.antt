-- Marks and hits, when one more slot has its provider.
use Rattle.std.proofs.Common.{◌≡◌, ◌∙◌, ℕ, ◌+◌, ◌-◌, ◌<◌, ◌≤◌, zero, suc, Bool, true, false, not, ◌&&◌, ◌||◌, List, [], ◌∷◌, ◌++◌, length, take, set, inl, inr, refl, sym, ap, ap₂, arith, nat_lt, length-append, length-set, slice_index, slice_index_or}
use Rattle.std.specs.Prelude.{◌==◌, if◌then◌else◌}
use Rattle.std.specs.List.{list_all, list_any, filter, range_with_len, All, AllByRecursion as Each}
use Rattle.std.proofs.lemmas.Bool.{cases_Bool, cases_eq, and_parts, eq-eqb, ne_eqb}
use Rattle.std.proofs.lemmas.Bool.Decides.{nat_tests}
use Rattle.std.proofs.lemmas.List.{get_or-set_same, get_or-set_other, take_all, take-append-le}
use Rattle.std.proofs.lemmas.List.Elements.{All-from_recursion}
use Rattle.std.proofs.lemmas.List.Folds.{list_all-append}
use Rattle.ac_query.specs.Asked.{Asked, Slot, is_isolated}
use Rattle.ac_cloud.specs.World.{Provider, is_available_at, anchors_of}
use Rattle.ac_rules.specs.Placed.{Placed, placed}
use Rattle.ac_rules.specs.Together.{is_set_apart, are_apart, all_apart, isolate, takes_root, anchor}
use Rattle.ac_prune.specs.Marks.{needs_own, marks_at, times, hits_at, turned, AreHits, AreWithFronts, IsWithAll, stand_at, stand_at_marked}
use Rattle.ac_rules.proofs.EachSlot.AnchorLemmas.{anchors_list, anchor_list, any_filter, any_agree, each_range}
use Rattle.ac_rules.proofs.Elements.{each_filter, each_weaker}
use Rattle.std.proofs.Common.{rules}

-- ---- Marks

pub marks_more : (asked : Asked) (xs : List Placed) (x : Placed) (p : ℕ) → marks_at asked (xs ++ x ∷ []) p ≡ marks_at asked xs p + (if needs_own asked x.slot && (x.provider == p) then 1 else 0)
marks_more asked [] x p = omega arith
marks_more asked (y ∷ xs) x p = let more = marks_more asked xs x p in omega arith

pub marks_most : (asked : Asked) (xs : List Placed) (p : ℕ) → marks_at asked xs p ≤ length xs
marks_most asked [] p = omega arith
marks_most asked (x ∷ xs) p = let more = marks_most asked xs p in elim (cases_Bool (needs_own asked x.slot && (x.provider == p))) [ inl e ↦ rw e (omega arith) | inr e ↦ rw e (omega arith) ]

-- a slot behind others stands apart from each
apart_next : (xs : List Placed) (x : Placed) → all_apart (xs ++ x ∷ []) ≡ all_apart xs && list_all (λ y. are_apart y x) xs
apart_next [] x = refl
apart_next (y ∷ xs) x = search (rules, list_all-append, apart_next xs x)

some_mark : (b : Bool) (m : ℕ) → nat_lt 0 ((if b then 1 else 0) + m) ≡ b || nat_lt 0 m
some_mark true m = grind (arith, nat_tests)
some_mark false m = ap (nat_lt 0) (omega arith)

-- where it is asked for, it does where no mark is at its provider
marks_none : (asked : Asked) (xs : List Placed) (x : Placed) → is_isolated asked ≡ true
    → list_all (λ y. are_apart y x) xs ≡ not (is_set_apart x.slot && nat_lt 0 (marks_at asked xs x.provider))
unfolding are_apart
marks_none asked [] x is = elim (cases_Bool (is_set_apart x.slot)) [ inl e ↦ rw e refl | inr e ↦ rw e refl ]
marks_none asked (y ∷ xs) x is = search (rules, some_mark, marks_none asked xs x is)

-- The next slot keeps Isolate exactly where it needs no provider for itself, or its own has no mark.
pub isolate_next : (asked : Asked) (xs : List Placed) (x : Placed) → isolate asked xs ≡ true
    → isolate asked (xs ++ x ∷ []) ≡ not (needs_own asked x.slot && nat_lt 0 (marks_at asked xs x.provider))
unfolding isolate
isolate_next asked xs x h = search (rules, apart_next, marks_none)

-- ---- Hits

turn_up : (b : Bool) (n m : ℕ) → 1 + turned b n (n + 1) m ≡ turned b (suc n) (suc n + 1) (1 + m)
turn_up b n m = grind (arith, nat_tests)

turn_none : (b : Bool) (n : ℕ) → 0 ≡ turned b (suc n) (suc n + 1) 0
turn_none b n = grind (arith, nat_tests)

pub hits_more : (all : List Provider) (q : List ℕ) (p r : ℕ) → hits_at all (q ++ p ∷ []) r ≡ turned (is_available_at all p r) (length q) (length q + 1) (hits_at all q r)
hits_more all [] p r = elim (cases_Bool (is_available_at all p r)) [ inl e ↦ rw e refl | inr e ↦ rw e refl ]
hits_more all (s ∷ q) p r = search (rules, turn_up, turn_none, hits_more all q p r)

pub hits_most : (all : List Provider) (q : List ℕ) (r : ℕ) → hits_at all q r ≤ length q
hits_most all [] r = omega arith
hits_most all (p ∷ q) r = let more = hits_most all q r in elim (cases_Bool (is_available_at all p r)) [ inl e ↦ rw e (omega arith) | inr e ↦ rw e (omega arith) ]

-- all are available where each hits
pub all_hit : (all : List Provider) (q : List ℕ) (r : ℕ) → stand_at all q r ≡ (hits_at all q r == length q)
all_hit all [] r = refl
all_hit all (p ∷ q) r = search (rules, hits_most, ne_eqb, all_hit all q r)

zero_more : (n : ℕ) → 0 + n ≡ n
zero_more n = omega arith

-- a root stands once among those below n that pass a test
pub times_filter : (f : ℕ → Bool) (a n r : ℕ) → r < a + n → times r (filter f (range_with_len a n)) ≡ (if nat_lt r a then 0 else (if f r then 1 else 0))
times_filter f a zero r h = let low : nat_lt r a ≡ true = grind (arith, nat_tests) in rw low refl
times_filter f a (suc n) r h = search (rules, eq-eqb, ne_eqb, zero_more, times_filter f (a + 1) n r (omega (arith, h)))

pub times_anchors : (all : List Provider) (p r : ℕ) → r < length all → times r (anchors_of all p) ≡ (if is_available_at all p r then 1 else 0)
times_anchors all p r h = search (rules, times_filter)

-- a provider is available at each of its roots
each_anchor : (all : List Provider) (p : ℕ) → Each (λ r. (is_available_at all p r ≡ true) × (r < length all)) (anchors_of all p)
each_anchor all p = each_filter (λ r. r < length all) (is_available_at all p) (range_with_len 0 (length all)) (each_range 0 (length all) (length all) (omega arith))

pub anchors_available : (all : List Provider) (p : ℕ) → All (λ r. is_available_at all p r ≡ true) (anchors_of all p)
anchors_available all p = All-from_recursion (λ r. is_available_at all p r ≡ true) (anchors_of all p) (each_weaker _ (λ r. is_available_at all p r ≡ true) (anchors_of all p) (λ r h. h.0) (each_anchor all p))

-- of those within a bound
any_within : (f g : ℕ → Bool) (zs : List ℕ) → Each (λ z. f z ≡ g z) zs → list_any f zs ≡ list_any g zs
any_within f g [] h = refl
any_within f g (z ∷ zs) h = ap₂ (λ a b. a || b) h.0 (any_within f g zs h.1)

-- all of a front and one more
pub stand_more : (all : List Provider) (q : List ℕ) (p r : ℕ) → stand_at all (q ++ p ∷ []) r ≡ (hits_at all q r == length q) && is_available_at all p r
stand_more all q p r = search (rules, list_all-append, all_hit)

-- so is a provider that is available wherever they are
with_more : (there both mark : Bool) → (both ≡ true → there ≡ true) → there && (mark && both) ≡ mark && both
with_more there both mark h = grind arith

-- With the next provider a list stands at a marked root exactly where, at a marked root of one that is available wherever it stands, all before
-- hit and the next is available.
pub stand_next : (all : List Provider) (marks : List Bool) (q : List ℕ) (p other : ℕ) (hits : List ℕ) → AreHits all hits q → IsWithAll all (q ++ p ∷ []) other
    → list_any (λ r. slice_index_or marks r false && ((slice_index hits r == length q) && is_available_at all p r)) (anchors_of all other) ≡ stand_at_marked all marks (q ++ p ∷ [])
unfolding stand_at_marked
stand_next all marks q p other hits hit with_all =
    let mark = λ (r : ℕ). slice_index_or marks r false in
    let stands = λ (r : ℕ). mark r && stand_at all (q ++ p ∷ []) r in
    any_within (λ r. mark r && ((slice_index hits r == length q) && is_available_at all p r)) stands (anchors_of all other)
    (each_weaker (λ r. (is_available_at all other r ≡ true) × (r < length all)) _ (anchors_of all other)
    (λ r h. ap (λ (n : ℕ). mark r && ((n == length q) && is_available_at all p r)) (hit r h.1) ∙ ap (λ (b : Bool). mark r && b) (sym (stand_more all q p r))) (each_anchor all other))
    ∙ (any_filter stands (is_available_at all other) (range_with_len 0 (length all))
    ∙ any_agree (λ r. is_available_at all other r && stands r) stands (λ r. with_more (is_available_at all other r) (stand_at all (q ++ p ∷ []) r) (mark r) (with_all r)) (range_with_len 0 (length all)))

-- ---- Who is available wherever a front is

-- a front that stands with one more, and where this is
with_parts : (all : List Provider) (q : List ℕ) (p r : ℕ) → stand_at all (q ++ p ∷ []) r ≡ true → (stand_at all q r ≡ true) × (stand_at all (p ∷ []) r ≡ true)
with_parts all q p r h = and_parts (stand_at all q r) (stand_at all (p ∷ []) r) (sym (list_all-append (λ x. is_available_at all x r) q (p ∷ [])) ∙ h)

pub own_with_all : (all : List Provider) (q : List ℕ) (p : ℕ) → IsWithAll all (q ++ p ∷ []) p
own_with_all all q p r h = (and_parts (is_available_at all p r) true (with_parts all q p r h).1).0

pub last_with_all : (all : List Provider) (list q : List ℕ) (p : ℕ) → AreWithFronts all list q → 0 < length q → IsWithAll all (q ++ p ∷ []) (slice_index list (length q - 1))
last_with_all all list q p are some r h =
    let whole : take (length q - 1 + 1) q ≡ q = take_all (length q - 1 + 1) q (omega arith) in
    are.with_all (length q - 1) (omega arith) r (rw whole (with_parts all q p r h).0)

pub whole_with_all : (all : List Provider) (list q : List ℕ) (p : ℕ) → AreWithFronts all list (q ++ p ∷ []) → IsWithAll all (q ++ p ∷ []) (slice_index list (length q))
whole_with_all all list q p are =
    let longer = length-append q (p ∷ []) in
    rw (take_all (length q + 1) (q ++ p ∷ []) (omega (arith, longer))) at (are.with_all (length q) (omega (arith, longer)))

pub fronts_next : (all : List Provider) (list q : List ℕ) (p n : ℕ) → AreWithFronts all list q → length q < length list → n < length all → IsWithAll all (q ++ p ∷ []) n
    → AreWithFronts all (set list (length q) n) (q ++ p ∷ [])
fronts_next all list q p n are room low with_all =
    let longer = length-append q (p ∷ []) in
    let there = get_or-set_same list (length q) n 0 room in
    record {
      count = omega (arith, longer, length-set list (length q) n);
      within = λ i h. elim (cases_eq i (length q)) [
        | inl e ↦ rw (e, there) low
        | inr e ↦ rw (get_or-set_other list (length q) i n 0 e) (are.within i (omega (arith, h, e, longer)))
      ];
      with_all = λ i h. elim (cases_eq i (length q)) [
        | inl e ↦ rw (e, there, take_all (length q + 1) (q ++ p ∷ []) (omega (arith, longer))) with_all
        | inr e ↦ let short : i + 1 ≤ length q = omega (arith, h, e, longer) in rw (get_or-set_other list (length q) i n 0 e, take-append-le (i + 1) q (p ∷ []) short) (are.with_all i (omega (arith, short)))
      ];
    }

pub fronts_back : (all : List Provider) (list q : List ℕ) (p : ℕ) → AreWithFronts all list (q ++ p ∷ []) → AreWithFronts all list q
fronts_back all list q p are =
    let longer = length-append q (p ∷ []) in
    record {
      count = omega (arith, longer, are.count);
      within = λ i h. are.within i (omega (arith, h, longer));
      with_all = λ i h. rw (take-append-le (i + 1) q (p ∷ []) (omega (arith, h))) at (are.with_all i (omega (arith, h, longer)));
    }

-- where those roots are marked that the query takes, that is an anchor
pub anchor_marked : (all : List Provider) (asked : Asked) (ss : List Slot) (list : List ℕ) (taken : List Bool) → length list ≤ length ss
    → ((r : ℕ) → r < length all → slice_index_or taken r false ≡ takes_root all asked r) → stand_at_marked all taken list ≡ anchor all asked (placed ss list)
unfolding stand_at_marked
anchor_marked all asked ss list taken short takes =
    any_within (λ r. slice_index_or taken r false && stand_at all list r) (λ r. anchors_list all asked list r) (range_with_len 0 (length all))
    (each_weaker (λ r. r < length all) _ (range_with_len 0 (length all)) (λ r h. ap (λ (b : Bool). b && stand_at all list r) (takes r h)) (each_range 0 (length all) (length all) (omega arith)))
    ∙ sym (anchor_list all asked ss list short)
