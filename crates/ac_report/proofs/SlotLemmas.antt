-- What slots need of a provider, and whose providers they have.
use Rattle.std.proofs.lemmas.Grind.{common_steps}
use Rattle.std.proofs.Common.{◌≡◌, ℕ, suc, ◌+◌, ◌<◌, List, [], ◌∷◌, ◌++◌, map, fold, drop, length, refl, ap, ◌∙◌, Bool, true, false, nat_cmp, if◌then◌else◌, slice_index, arith}
use Rattle.std.specs.Prelude.{nat_eq, slice_index_or}
use Rattle.std.specs.BTreeSet.{insert_key}
use Rattle.std.specs.Map.{keys_of}
use Rattle.std.specs.List.{All, filter, list_any}
use Rattle.std.proofs.lemmas.List.{map-append}
use Rattle.std.proofs.lemmas.List.Sums.{fold-append}
use Rattle.std.proofs.lemmas.List.Elements.{All-cons}
use Rattle.std.proofs.lemmas.Map.Views.{All-insert_key}
use Rattle.ac_base.specs.Texts.{text_cmp}
use Rattle.ac_query.specs.Asked.{Slot}
use Rattle.ac_rules.specs.Placed.{Placed, placed, no_slot}
use Rattle.ac_rules.specs.Together.{amount_of, sum_on}
use Rattle.ac_rules.proofs.PlacedLemmas.{placed_more}
use Rattle.ac_base.specs.Sorted.{rising}
use Rattle.ac_report.specs.Trees.{hosts, needs_on}

-- ---- one slot more of those that are left

-- what the slot at a place needs of a provider
abbrev pub needs_in : List Slot → List ℕ → ℕ → ℕ → List (List ℕ × ℕ)
needs_in ss t i ix = if nat_eq (slice_index t i) ix then (slice_index_or ss i no_slot).needs else []

pub needs_more : (ss : List Slot) (t : List ℕ) (i ix : ℕ) → i < length t → i < length ss
    → needs_on (placed (drop i ss) (drop i t)) ix ≡ needs_in ss t i ix ++ needs_on (placed (drop (i + 1) ss) (drop (i + 1) t)) ix
needs_more ss t i ix h k = ap (λ xs. needs_on xs ix) (placed_more ss t i no_slot h k)

-- the classes that are needed
pub keys_more : (ss : List Slot) (t : List ℕ) (i ix : ℕ) (done : List (List ℕ)) → i < length t → i < length ss
    → fold (insert_key text_cmp) done (keys_of (needs_on (placed (drop i ss) (drop i t)) ix))
    ≡ fold (insert_key text_cmp) (fold (insert_key text_cmp) done (keys_of (needs_in ss t i ix))) (keys_of (needs_on (placed (drop (i + 1) ss) (drop (i + 1) t)) ix))
keys_more ss t i ix done h k = grind (arith, common_steps, needs_more, map-append, needs_in, fold-append)

-- ---- sums

amount_append : (q : List ℕ) (xs ys : List (List ℕ × ℕ)) → amount_of (xs ++ ys) q ≡ amount_of xs q + amount_of ys q
amount_append q [] ys = omega arith
amount_append q (x ∷ xs) ys = let e = amount_append q xs ys in omega (arith, e)

amount_if : (q : List ℕ) (b : Bool) (needs : List (List ℕ × ℕ)) → amount_of (if b then needs else []) q ≡ (if b then amount_of needs q else 0)
amount_if q b needs = grind (arith, common_steps)

pub amount_more : (ss : List Slot) (t : List ℕ) (i ix : ℕ) (q : List ℕ) → i < length t → i < length ss
    → amount_of (needs_on (placed (drop i ss) (drop i t)) ix) q ≡ amount_of (needs_in ss t i ix) q + amount_of (needs_on (placed (drop (i + 1) ss) (drop (i + 1) t)) ix) q
amount_more ss t i ix q h k = ap (λ needs. amount_of needs q) (needs_more ss t i ix h k) ∙ amount_append q (needs_in ss t i ix) _

-- what is needed of a provider, class by class
pub sum_on_is : (xs : List Placed) (ix : ℕ) (q : List ℕ) → sum_on xs ix q ≡ amount_of (needs_on xs ix) q
sum_on_is [] ix q = refl
sum_on_is (x ∷ xs) ix q = grind (arith, common_steps, amount_if, amount_append, sum_on_is xs ix q)

-- nothing is needed of who serves no slot
pub needs_none : (xs : List Placed) (ix : ℕ) → list_any (λ p. nat_eq p ix) (map (λ x. x.provider) xs) ≡ false → needs_on xs ix ≡ []
needs_none [] ix h = refl
needs_none (x ∷ xs) ix h = grind (arith, common_steps, needs_none xs ix)

-- ---- whose providers these are

pub providers_are : (ss : List Slot) (t : List ℕ) → length t ≡ length ss → map (λ x. x.provider) (placed ss t) ≡ t
providers_are [] [] e = refl
providers_are [] (p ∷ t) e = absurd (omega arith)
providers_are (s ∷ ss) [] e = refl
providers_are (s ∷ ss) (p ∷ t) e = ap (λ l. p ∷ l) (providers_are ss t (omega arith))

all_fold : (P : ℕ → Type 0) (xs done : List ℕ) → All P xs → All P done → All P (fold (insert_key nat_cmp) done xs)
all_fold P [] done h k = k
all_fold P (x ∷ xs) done h k = grind (arith, common_steps, all_fold P xs (insert_key nat_cmp done x) (λ i d lt. h (suc i) d (omega arith)) (All-insert_key nat_cmp x P done k (h 0 x (omega arith))))

pub all_rising : (P : ℕ → Type 0) (xs : List ℕ) → All P xs → All P (rising nat_cmp xs)
all_rising P xs h = all_fold P xs [] h (λ i d lt. absurd (omega arith))

-- the providers of a group are those of the list
pub all_hosts : (P : ℕ → Type 0) (ss : List Slot) (t : List ℕ) (g : ℕ) → All P t → All P (hosts (placed ss t) g)
all_hosts P [] t g h = λ i d lt. absurd (omega arith)
all_hosts P (s ∷ ss) [] g h = λ i d lt. absurd (omega arith)
all_hosts P (s ∷ ss) (p ∷ t) g h = by (nat_eq s.place g) (h 0 p (omega arith)) (all_hosts P ss t g (λ i d lt. h (suc i) d (omega arith)))
  where
    by : (b : Bool) → P p → All P (hosts (placed ss t) g)
        → All P (map (λ x. x.provider) (if b then record { slot = s; provider = p } ∷ filter (λ x. nat_eq x.slot.place g) (placed ss t) else filter (λ x. nat_eq x.slot.place g) (placed ss t)))
    by true here more = All-cons P p (hosts (placed ss t) g) here more
    by false here more = more
