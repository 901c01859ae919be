-- What claims take, need by need and slot by slot.
use Rattle.std.proofs.Common.{◌≡◌, ◌∙◌, ◌<◌, ◌≤◌, ◌+◌, ◌-◌, ◌==◌, ◌&&◌, ◌≢◌, ℕ, nat_le, true, false, List, [], ◌∷◌, drop, length, Option, None, Some, refl, sym, ap, ap₂, arith, inl, inr, slice_index, slice_index_or, option_map, unwrap_or}
use Rattle.std.specs.List.Sorted.{IsStrictlySortedBy}
use Rattle.std.specs.Map.{keys_of}
use Rattle.std.specs.Str.{bytes_eq}
use Rattle.std.proofs.lemmas.Bool.{cases_Bool, cases_eq, cases_lt, false_from_ne_true}
use Rattle.std.proofs.lemmas.Bool.Decides.{nat_tests}
use Rattle.std.proofs.lemmas.Slice.Eq.{bytes_eq-Decides}
use Rattle.ac_base.proofs.Small.{equal, are_equal}
use Rattle.ac_base.specs.Quantities.{InventoryNumbers, capacity}
use Rattle.ac_base.specs.Texts.{text_cmp}
use Rattle.ac_cloud.specs.Amounts.{amount_at, with_amounts}
use Rattle.ac_cloud.specs.World.{UsedInventory, Provider, provider_at, entry_in, used_of}
use Rattle.ac_cloud.proofs.Amounts.{amounts_again, amounts_kept, amounts_same, amounts_same_found, amounts_size}
use Rattle.ac_query.specs.Asked.{Asked, Slot}
use Rattle.ac_rules.specs.Claims.{claimed, released}
use Rattle.ac_rules.specs.Judge.{judge, is_candidate}
use Rattle.ac_rules.specs.Placed.{Placed, assigned, placed, no_slot}
use Rattle.ac_rules.specs.Together.{sum_on, has_room, sums}
use Rattle.ac_rules.specs.Shown.Changes.{asked_of_one, changed, is_counted_in_use, is_counted_sum, used_after, uses_counted_sums}
use Rattle.ac_rules.specs.declared.claims.Change.{Change}
use Rattle.ac_rules.specs.declared.claims.Change.TheVariants.{Claim, Release, Restore}
use Rattle.ac_rules.specs.declared.verdict.Verdict.TheVariants.{Candidate}
use Rattle.ac_rules.proofs.EachSlot.FrontLemmas.{candidate_opens}
use Rattle.ac_rules.proofs.EachSlot.FullLemmas.{asked_from, full_from}
use Rattle.ac_rules.proofs.EachSlot.JudgeLemmas.{judged_candidate}
use Rattle.ac_rules.proofs.PlacedLemmas.{placed_more}

-- ---- sums one after another

used_again : (change : Change) (a b : ℕ) (had : UsedInventory) → used_after change b (record had { used = used_after change a had }) ≡ used_after change (a + b) had
used_again Claim a b had = omega arith
used_again Release a b had = omega arith
used_again Restore a b had = omega arith

used_none : (change : Change) (had : UsedInventory) → used_after change 0 had ≡ had.used
used_none Claim had = omega arith
used_none Release had = omega arith
used_none Restore had = omega arith

pub changed_size : (change : Change) (f : ℕ → List ℕ → ℕ) (all : List Provider) → length (changed change f all) ≡ length all
unfolding changed
changed_size change f all = amounts_size (λ ix class had. used_after change (f ix class) had) all

-- two sums, and a third that is both
pub changed_again : (change : Change) (f g h : ℕ → List ℕ → ℕ) (all : List Provider) → ((ix : ℕ) (class : List ℕ) → f ix class + g ix class ≡ h ix class)
    → changed change g (changed change f all) ≡ changed change h all
unfolding changed
changed_again change f g h all both =
    amounts_again (λ ix class had. used_after change (f ix class) had) (λ ix class had. used_after change (g ix class) had) all
    ∙ amounts_same _ (λ ix class had. used_after change (h ix class) had) all
    (λ ix class had. used_again change (f ix class) (g ix class) had ∙ ap (λ (sum : ℕ). used_after change sum had) (both ix class))

pub changed_none : (change : Change) (f : ℕ → List ℕ → ℕ) (all : List Provider) → ((ix : ℕ) (class : List ℕ) → f ix class ≡ 0) → changed change f all ≡ all
unfolding changed
changed_none change f all none =
    amounts_same (λ ix class had. used_after change (f ix class) had) (λ ix class had. had.used) all
    (λ ix class had. ap (λ (sum : ℕ). used_after change sum had) (none ix class) ∙ used_none change had)
    ∙ amounts_kept all

-- what needs ask: of the first, and of the rest
one_more : (place : ℕ) (need : List ℕ × ℕ) (needs : List (List ℕ × ℕ)) (ix : ℕ) (class : List ℕ)
    → asked_of_one place (need ∷ []) ix class + asked_of_one place needs ix class ≡ asked_of_one place (need ∷ needs) ix class
one_more place need needs ix class = elim (cases_Bool (place == ix)) [ inl e ↦ rw e (omega arith) | inr e ↦ rw e (omega arith) ]

pub needs_more : (change : Change) (place : ℕ) (need : List ℕ × ℕ) (needs : List (List ℕ × ℕ)) (all : List Provider)
    → changed change (asked_of_one place needs) (changed change (asked_of_one place (need ∷ [])) all) ≡ changed change (asked_of_one place (need ∷ needs)) all
needs_more change place need needs all = changed_again change (asked_of_one place (need ∷ [])) (asked_of_one place needs) (asked_of_one place (need ∷ needs)) all (one_more place need needs)

no_needs : (place ix : ℕ) (class : List ℕ) → asked_of_one place [] ix class ≡ 0
no_needs place ix class = elim (cases_Bool (place == ix)) [ inl e ↦ rw e refl | inr e ↦ rw e refl ]

pub needs_end : (change : Change) (place : ℕ) (all : List Provider) → changed change (asked_of_one place []) all ≡ all
needs_end change place all = changed_none change (asked_of_one place []) all (no_needs place)

pub slots_more : (change : Change) (ss : List Slot) (t : List ℕ) (i : ℕ) (all : List Provider) → i < length t → i < length ss
    → changed change (sum_on (placed (drop (i + 1) ss) (drop (i + 1) t))) (changed change (asked_of_one (slice_index t i) (slice_index_or ss i no_slot).needs) all)
    ≡ changed change (sum_on (placed (drop i ss) (drop i t))) all
slots_more change ss t i all h k =
    changed_again change (asked_of_one (slice_index t i) (slice_index_or ss i no_slot).needs) (sum_on (placed (drop (i + 1) ss) (drop (i + 1) t))) (sum_on (placed (drop i ss) (drop i t))) all
    (λ ix class. ap (λ xs. sum_on xs ix class) (sym (placed_more ss t i no_slot h k)))

pub slots_end : (change : Change) (all : List Provider) → changed change (sum_on []) all ≡ all
slots_end change all = changed_none change (sum_on []) all (λ ix class. refl)

-- ---- one need, of which the cloud sets an amount

some_same : (a b : UsedInventory) → Some a ≡ Some b → a ≡ b
some_same a b e = cc

some_none : (a : UsedInventory) → Some a ≡ None → ⊥
some_none a e = cc

module _ (change : Change) (all : List Provider) (place : ℕ) (need : List ℕ × ℕ) (rise : (ix : ℕ) → ix < length all → IsStrictlySortedBy text_cmp (keys_of (provider_at all ix).entries)) where
  -- elsewhere nothing changes
  other_place : (ix : ℕ) (class : List ℕ) (had : UsedInventory) → ix ≢ place → had.used ≡ used_after change (asked_of_one place (need ∷ []) ix class) had
  other_place ix class had other =
      let no : (place == ix) ≡ false = false_from_ne_true (place == ix) (λ t. other (sym (are_equal place ix t))) in
      rw no (sym (used_none change had))

  other_class : (ix : ℕ) (class : List ℕ) (had : UsedInventory) → ix ≡ place → bytes_eq need.0 class ≡ false → had.used ≡ used_after change (asked_of_one place (need ∷ []) ix class) had
  other_class ix class had same other = rw (equal place ix (sym same), other) (sym (used_none change had))

  -- an amount that a look-up gave
  set_found : (found : UsedInventory) → entry_in (provider_at all place) need.0 ≡ Some found → (ix : ℕ) (class : List ℕ) (had : UsedInventory) → entry_in (provider_at all ix) class ≡ Some had
      → amount_at place need.0 (used_after change need.1 found) ix class had ≡ used_after change (asked_of_one place (need ∷ []) ix class) had
  set_found found there ix class had here = elim (cases_eq ix place) [
    | inl same ↦ elim (cases_Bool (bytes_eq need.0 class)) [
      | inl met ↦
          let alike : had ≡ found = some_same had found (sym here ∙ ap₂ (λ (j : ℕ) (k : List ℕ). entry_in (provider_at all j) k) same (sym ((bytes_eq-Decides need.0 class).0 met)) ∙ there) in
          rw (equal ix place same, equal place ix (sym same), met) (ap₂ (λ (n : ℕ) h. used_after change n h) (omega arith) (sym alike))
      | inr other ↦ rw (equal ix place same, equal place ix (sym same), other) (sym (used_none change had))
    ]
    | inr other ↦
        let no : (ix == place) ≡ false = false_from_ne_true (ix == place) (λ t. other (are_equal ix place t)) in
        rw no (other_place ix class had other)
  ]

  pub set_one : (found : UsedInventory) → entry_in (provider_at all place) need.0 ≡ Some found
      → with_amounts (amount_at place need.0 (used_after change need.1 found)) all ≡ changed change (asked_of_one place (need ∷ [])) all
  unfolding changed
  set_one found there =
      amounts_same_found (amount_at place need.0 (used_after change need.1 found)) (λ ix class had. used_after change (asked_of_one place (need ∷ []) ix class) had) all rise
      (λ ix class had inside. set_found found there ix class had)

  none_there : entry_in (provider_at all place) need.0 ≡ None → (ix : ℕ) (class : List ℕ) (had : UsedInventory) → entry_in (provider_at all ix) class ≡ Some had
      → had.used ≡ used_after change (asked_of_one place (need ∷ []) ix class) had
  none_there there ix class had here = elim (cases_eq ix place) [
    | inl same ↦ elim (cases_Bool (bytes_eq need.0 class)) [
      | inl met ↦ absurd (some_none had (sym here ∙ ap₂ (λ (j : ℕ) (k : List ℕ). entry_in (provider_at all j) k) same (sym ((bytes_eq-Decides need.0 class).0 met)) ∙ there))
      | inr other ↦ other_class ix class had same other
    ]
    | inr other ↦ other_place ix class had other
  ]

  -- without an inventory nothing changes
  pub set_none : entry_in (provider_at all place) need.0 ≡ None → all ≡ changed change (asked_of_one place (need ∷ [])) all
  unfolding changed
  set_none there =
      sym (amounts_kept all)
      ∙ amounts_same_found (λ ix class had. had.used) (λ ix class had. used_after change (asked_of_one place (need ∷ []) ix class) had) all rise
      (λ ix class had inside. none_there there ix class had)

-- what a look-up of an inventory, and one of what is used, say of an entry
pub found_both : (o : Option UsedInventory) (inventory : InventoryNumbers) → Some inventory ≡ option_map (λ h. h.inventory) o
    → o ≡ Some (record { inventory = inventory; used = unwrap_or (option_map (λ h. h.used) o) 0 })
found_both None inventory e = absurd (cc)
found_both (Some had) inventory e = let same : inventory ≡ had.inventory = cc in rw same refl

pub found_neither : (o : Option UsedInventory) → None ≡ option_map (λ h. h.inventory) o → o ≡ None
found_neither None e = refl
found_neither (Some had) e = absurd (cc)

-- what look-ups found, and an amount that is set by them
pub set_here : (change : Change) (all : List Provider) (place : ℕ) (need : List ℕ × ℕ) → ((ix : ℕ) → ix < length all → IsStrictlySortedBy text_cmp (keys_of (provider_at all ix).entries))
    → (class : List ℕ) (inventory : InventoryNumbers) (used amount result : ℕ) → class ≡ need.0
    → Some inventory ≡ option_map (λ h. h.inventory) (entry_in (provider_at all place) class) → used ≡ used_of (provider_at all place) class → amount ≡ need.1
    → result ≡ used_after change amount (record { inventory = inventory; used = used })
    → with_amounts (amount_at place class result) all ≡ changed change (asked_of_one place (need ∷ [])) all
set_here change all place need rise class inventory used amount result same there uses asks e =
    ap₂ (λ (k : List ℕ) (v : ℕ). with_amounts (amount_at place k v) all) same
    (e ∙ ap₂ (λ (n u : ℕ). used_after change n (record { inventory = inventory; used = u })) asks (uses ∙ ap (used_of (provider_at all place)) same))
    ∙ set_one change all place need rise (record { inventory = inventory; used = used_of (provider_at all place) need.0 })
    (found_both (entry_in (provider_at all place) need.0) inventory (there ∙ ap (λ k. option_map (λ h. h.inventory) (entry_in (provider_at all place) k)) same))

-- ---- all needs

restored : (had : UsedInventory) (sum : ℕ) → nat_le sum had.used && nat_le had.used 18446744073709551615 ≡ true → used_after Restore sum (record had { used = had.used - sum }) ≡ had.used
restored had sum h =
    let within : nat_le sum had.used ≡ true = grind arith in
    let counted : nat_le had.used 18446744073709551615 ≡ true = grind arith in
    grind (arith, nat_tests)

within_room : (had : UsedInventory) (sum : ℕ) → has_room (Some had.inventory) had.used sum ≡ true → had.used + sum ≤ capacity had.inventory
within_room had sum h = grind (arith, nat_tests)

-- a candidate has room for all that it claims
pub claim_is : (all : List Provider) (xs : List Placed) → ((ix : ℕ) → ix < length all → IsStrictlySortedBy text_cmp (keys_of (provider_at all ix).entries)) → sums all xs ≡ true
    → changed Claim (sum_on xs) all ≡ claimed all xs
unfolding changed claimed sums
claim_is all xs rise h =
    amounts_same_found (λ ix class had. used_after Claim (sum_on xs ix class) had) (λ ix class had. had.used + sum_on xs ix class) all rise
    (λ ix class had inside there. elim (cases_lt 0 (sum_on xs ix class)) [
      | inl some ↦
          let room : has_room (Some had.inventory) had.used (sum_on xs ix class) ≡ true = rw there at (full_from all xs xs h ix class some) in
          let fits = within_room had (sum_on xs ix class) room in
          omega (arith, fits)
      | inr none ↦ omega (arith, none)
    ])

pub release_is : (all : List Provider) (xs : List Placed) → changed Release (sum_on xs) all ≡ released all xs
unfolding changed released
release_is all xs = refl

pub released_size : (all : List Provider) (xs : List Placed) → length (released all xs) ≡ length all
unfolding released
released_size all xs = amounts_size (λ ix class had. had.used - sum_on xs ix class) all

pub candidate_sums : (all : List Provider) (asked : Asked) (list : List ℕ) → judge all asked list ≡ Candidate → sums all (assigned asked list) ≡ true
unfolding is_candidate
candidate_sums all asked list h = (candidate_opens all asked (assigned asked list) (judged_candidate all asked list h)).sums

-- what is in use and given back can be taken again
pub restore_is : (all : List Provider) (xs : List Placed) → ((ix : ℕ) → ix < length all → IsStrictlySortedBy text_cmp (keys_of (provider_at all ix).entries))
    → is_counted_in_use all xs ≡ true → changed Restore (sum_on xs) (released all xs) ≡ all
unfolding changed released is_counted_in_use uses_counted_sums
restore_is all xs rise h =
    amounts_again (λ ix class had. had.used - sum_on xs ix class) (λ ix class had. used_after Restore (sum_on xs ix class) had) all
    ∙ amounts_same_found (λ ix class had. used_after Restore (sum_on xs ix class) (record had { used = had.used - sum_on xs ix class })) (λ ix class had. had.used) all rise
    (λ ix class had inside there. elim (cases_lt 0 (sum_on xs ix class)) [
      | inl some ↦
          let within : is_counted_sum all xs ix class ≡ true = asked_from (is_counted_sum all xs) xs h ix class some in
          restored had (sum_on xs ix class) (rw there at within)
      | inr none ↦ omega (arith, none)
    ])
    ∙ amounts_kept all
