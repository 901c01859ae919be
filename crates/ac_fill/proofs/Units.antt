-- Each claim of a candidate takes a unit of what is left.
use Rattle.std.proofs.Common.{◌≡◌, ◌∙◌, ◌<◌, ◌≤◌, ◌+◌, ℕ, zero, suc, true, List, [], ◌∷◌, length, map, nat_lt, Option, None, Some, refl, sym, ap, subst, arith, inl, inr, option_map, unwrap_or}
use Rattle.std.specs.List.{list_any, sum_by}
use Rattle.std.specs.Map.{lookup}
use Rattle.std.specs.Str.{bytes_eq}
use Rattle.std.proofs.lemmas.Bool.{cases_Bool, cases_lt, eq-eqb, false≢true}
use Rattle.std.proofs.lemmas.Bool.Decides.{nat_tests}
use Rattle.std.proofs.lemmas.List.{get_or_past}
use Rattle.std.proofs.lemmas.List.Sums.{sum_by-cons}
use Rattle.std.proofs.lemmas.Slice.Eq.{bytes_eq-Decides}
use Rattle.ac_base.specs.Quantities.{capacity}
use Rattle.ac_cloud.specs.Amounts.{entry_using, with_amounts}
use Rattle.ac_cloud.specs.World.{Provider, UsedInventory, no_provider, provider_at, entry_in}
use Rattle.ac_cloud.proofs.Amounts.{amounts_here, amounts_size}
use Rattle.ac_query.specs.Asked.{Asked, Slot, slots_of}
use Rattle.ac_rules.specs.Claims.{claimed}
use Rattle.ac_rules.specs.Judge.{is_candidate}
use Rattle.ac_rules.specs.Placed.{Placed, assigned, placed}
use Rattle.ac_rules.specs.Together.{amount_of, sum_on, has_room, holds, sums}
use Rattle.ac_rules.proofs.EachSlot.FrontLemmas.{candidate_opens}
use Rattle.ac_rules.proofs.EachSlot.FullLemmas.{full_from}
use Rattle.ac_rules.proofs.Lists.RestLemmas.{IsChosen}
use Rattle.ac_fill.specs.Filled.{asks_units, units_in, units_at, units_left}
use Rattle.std.proofs.lemmas.Grind.{common_steps}

-- ---- sums of what providers have left

sums_less : (f : Provider → ℕ) (ps qs : List Provider) → length ps ≡ length qs → ((i : ℕ) → f (provider_at ps i) ≤ f (provider_at qs i)) → sum_by f ps ≤ sum_by f qs
sums_less f [] [] e h = omega arith
sums_less f [] (q ∷ qs) e h = absurd (omega (arith, e))
sums_less f (p ∷ ps) [] e h = absurd (omega (arith, e))
sums_less f (p ∷ ps) (q ∷ qs) e h =
    omega (arith, sum_by-cons f p ps, sum_by-cons f q qs, h 0, sums_less f ps qs (omega (arith, e)) (λ i. h (suc i)))

sums_fall : (f : Provider → ℕ) (ps qs : List Provider) (j : ℕ) → length ps ≡ length qs → ((i : ℕ) → f (provider_at ps i) ≤ f (provider_at qs i))
    → j < length qs → f (provider_at ps j) < f (provider_at qs j) → sum_by f ps < sum_by f qs
sums_fall f ps [] j e h k less = absurd (omega (arith, k))
sums_fall f [] (q ∷ qs) j e h k less = absurd (omega (arith, e))
sums_fall f (p ∷ ps) (q ∷ qs) zero e h k less =
    omega (arith, sum_by-cons f p ps, sum_by-cons f q qs, less, sums_less f ps qs (omega (arith, e)) (λ i. h (suc i)))
sums_fall f (p ∷ ps) (q ∷ qs) (suc j) e h k less =
    omega (arith, sum_by-cons f p ps, sum_by-cons f q qs, h 0, sums_fall f ps qs j (omega (arith, e)) (λ i. h (suc i)) (omega (arith, k)) less)

-- ---- what one provider has left, when more is used

abbrev left_in : List (List ℕ × UsedInventory) → ℕ
left_in es = sum_by (λ e. units_in e.1) es

module _ (amount : List ℕ → UsedInventory → ℕ) (more : (class : List ℕ) (had : UsedInventory) → had.used ≤ amount class had) where
  entries_less : (es : List (List ℕ × UsedInventory)) → left_in (map (entry_using amount) es) ≤ left_in es
  entries_less [] = omega arith
  entries_less (e ∷ es) =
      let here = more e.0 e.1 in
      let rest = entries_less es in
      omega (arith, sum_by-cons (λ (e : List ℕ × UsedInventory). units_in e.1) e es, sum_by-cons (λ (e : List ℕ × UsedInventory). units_in e.1) (entry_using amount e) (map (entry_using amount) es), here, rest)

  entries_fall : (es : List (List ℕ × UsedInventory)) (class : List ℕ) (had : UsedInventory) → lookup (bytes_eq class) es ≡ Some had
      → had.used < amount class had → had.used < capacity had.inventory → left_in (map (entry_using amount) es) < left_in es
  entries_fall [] class had found less room = absurd (cc)
  entries_fall (e ∷ es) class had found less room = elim (cases_Bool (bytes_eq class e.0)) [
    | inl met ↦
        let same : class ≡ e.0 = (bytes_eq-Decides class e.0).0 met in
        let rest = entries_less es in
        let here : had.used < amount e.0 had = subst (λ (c : List ℕ). had.used < amount c had) same less in
        let taken : units_in (entry_using amount e).1 < units_in e.1 = rw (some_same (rw met at found)) (omega (arith, here, room)) in
        omega (arith, sum_by-cons (λ (e : List ℕ × UsedInventory). units_in e.1) e es, sum_by-cons (λ (e : List ℕ × UsedInventory). units_in e.1) (entry_using amount e) (map (entry_using amount) es), taken, rest)
    | inr other ↦
        let here = more e.0 e.1 in
        let rest = entries_fall es class had (rw other at found) less room in
        omega (arith, sum_by-cons (λ (e : List ℕ × UsedInventory). units_in e.1) e es, sum_by-cons (λ (e : List ℕ × UsedInventory). units_in e.1) (entry_using amount e) (map (entry_using amount) es), here, rest)
  ]
    where
      some_same : {a b : UsedInventory} → Some a ≡ Some b → a ≡ b
      some_same e = cc

-- ---- a claim

-- an inventory with room for a sum is there
found : (o : Option UsedInventory) (sum : ℕ) → has_room (option_map (λ h. h.inventory) o) (unwrap_or (option_map (λ h. h.used) o) 0) sum ≡ true
    → (had : UsedInventory) × (o ≡ Some had) × (had.used + sum ≤ capacity had.inventory)
found o sum h = grind (arith, common_steps)

inside : (all : List Provider) (p : ℕ) (class : List ℕ) (had : UsedInventory) → entry_in (provider_at all p) class ≡ Some had → p < length all
inside all p class had e = elim (cases_lt p (length all)) [
  | inl within ↦ within
  | inr past ↦ absurd (none (sym (ap (λ (q : Provider). entry_in q class) (get_or_past all p no_provider past)) ∙ e))
]
  where
    none : {had : UsedInventory} → None ≡ Some had → ⊥
    none e = cc

units_fall : (all : List Provider) (xs : List Placed) (p : ℕ) (class : List ℕ) → 0 < sum_on xs p class → holds (provider_at all p) class (sum_on xs p class) ≡ true
    → units_left (claimed all xs) < units_left all
unfolding units_left claimed
units_fall all xs p class some room =
    let amount : ℕ → List ℕ → UsedInventory → ℕ = λ ix class had. had.used + sum_on xs ix class in
    let there = found (entry_in (provider_at all p) class) (sum_on xs p class) room in
    let had = there.0 in
    let fits = there.2 in
    sums_fall units_at (with_amounts amount all) all p (amounts_size amount all)
    (λ i. rw (amounts_here amount all i) (entries_less (amount i) (λ class had. omega arith) (provider_at all i).entries))
    (inside all p class had there.1)
    (rw (amounts_here amount all p) (entries_fall (amount p) (λ class had. omega arith) (provider_at all p).entries class had there.1 (omega (arith, some)) (omega (arith, some, fits))))

-- ---- what is asked

some_amount : (needs : List (List ℕ × ℕ)) → list_any (λ need. nat_lt 0 need.1) needs ≡ true → (class : List ℕ) × (0 < amount_of needs class)
some_amount [] h = absurd (false≢true h)
some_amount (need ∷ needs) h = elim (cases_Bool (nat_lt 0 need.1)) [
  | inl here ↦ (need.0, let same = (bytes_eq-Decides need.0 need.0).1 refl in rw same (grind (arith, nat_tests)))
  | inr later ↦ let more = some_amount needs (rw later at h) in (more.0, let there = more.1 in omega (arith, there))
]

some_sum : (slots : List Slot) (t : List ℕ) → length t ≡ length slots → list_any (λ slot. list_any (λ need. nat_lt 0 need.1) slot.needs) slots ≡ true
    → (p : ℕ) × (class : List ℕ) × (0 < sum_on (placed slots t) p class)
some_sum [] t e h = absurd (false≢true h)
some_sum (s ∷ slots) [] e h = absurd (omega (arith, e))
some_sum (s ∷ slots) (p ∷ t) e h = elim (cases_Bool (list_any (λ need. nat_lt 0 need.1) s.needs)) [
  | inl here ↦ let some = some_amount s.needs here in (p, some.0, let more = some.1 in rw (eq-eqb p p refl) (omega (arith, more)))
  | inr later ↦ let more = some_sum slots t (omega (arith, e)) (rw later at h) in (more.0, more.1, let there = more.2 in omega (arith, there))
]

-- the claim of a candidate leaves less
pub claim_takes : (all : List Provider) (asked : Asked) (t : List ℕ) → asks_units asked ≡ true → IsChosen all asked t → units_left (claimed all (assigned asked t)) < units_left all
unfolding asks_units is_candidate sums
claim_takes all asked t asks h =
    let xs = assigned asked t in
    let some = some_sum (slots_of asked) t h.list.long asks in
    units_fall all xs some.0 some.1 some.2 (full_from all xs xs (candidate_opens all asked xs h.candidate).sums some.0 some.1 some.2)
