-- Each query that is accepted asks for an amount of a class.
use Rattle.std.proofs.Common.{◌≡◌, ◌∙◌, ◌+◌, ◌||◌, ℕ, Bool, true, false, nat_lt, List, [], ◌∷◌, ◌++◌, length, Option, None, Some, refl, arith, inl, inr}
use Rattle.std.specs.List.{list_any, AllByRecursion as Each}
use Rattle.std.proofs.lemmas.Bool.{cases_Bool, false≢true}
use Rattle.std.proofs.lemmas.Bool.Decides.{nat_tests}
use Rattle.std.proofs.lemmas.List.Folds.{list_any-append}
use Rattle.ac_query.specs.Asked.{Asked, Group, Slot, group_slots, slots_from}
use Rattle.ac_query.specs.Faults.{Fault, no_resources, asked_conditions, first_fault, has_resources, query_fault, text_conditions}
use Rattle.ac_query.specs.Laws.Gathered.{asked_by}
use Rattle.ac_query.specs.Laws.InOrder.{AreNeeds}
use Rattle.ac_query.specs.Pairs.{pairs_of}
use Rattle.ac_query.proofs.Pairs.Ordered.{query_in_order}
use Rattle.ac_fill.specs.Filled.{asks_units}
use Rattle.ac_fill.specs.Laws.{AcceptedAsk}

-- a slot asks for an amount
abbrev asks : Slot → Bool
asks slot = list_any (λ need. nat_lt 0 need.1) slot.needs

group_asks : (i : ℕ) (g : Option (List ℕ) × Group) → AreNeeds g.1.needs → has_resources g ≡ true → list_any asks (group_slots i g) ≡ true
group_asks i (suffix, g) h some = by_needs suffix g.needs h some
  where
    by_needs : (suffix : Option (List ℕ)) (needs : List (List ℕ × ℕ)) → AreNeeds needs → nat_lt 0 (length needs) ≡ true
        → list_any asks (group_slots i (suffix, record g { needs = needs })) ≡ true
    by_needs suffix [] h some = absurd (false≢true some)
    by_needs None (need ∷ needs) h some = let here = h.positive.0 in grind (arith, nat_tests)
    by_needs (Some s) (need ∷ needs) h some = let here = h.positive.0 in grind (arith, nat_tests)

some_group : (i : ℕ) (gs : List (Option (List ℕ) × Group)) → Each (λ g. AreNeeds g.1.needs) gs → list_any has_resources gs ≡ true → list_any asks (slots_from i gs) ≡ true
some_group i [] h some = absurd (false≢true some)
some_group i (g ∷ gs) h some = list_any-append asks (group_slots i g) (slots_from (i + 1) gs) ∙ (elim (cases_Bool (has_resources g)) [
  | inl here ↦ rw (group_asks i g h.0 here) refl
  | inr later ↦ rw (some_group (i + 1) gs h.1 (rw later at some)) (or_true (list_any asks (group_slots i g)))
])
  where
    or_true : (b : Bool) → (b || true) ≡ true
    or_true true = refl
    or_true false = refl

-- where no condition of some is met, none of the later ones is
later_none : (xs ys : List (Bool × Fault)) → first_fault (xs ++ ys) ≡ None → first_fault ys ≡ None
later_none [] ys e = e
later_none (x ∷ xs) ys e = elim (cases_Bool x.0) [
  | inl met ↦ absurd (some_none (rw met at e))
  | inr not_met ↦ later_none xs ys (rw not_met at e)
]
  where
    some_none : Some x.1 ≡ None → ⊥
    some_none e = cc

resources_given : (a : Asked) → first_fault (asked_conditions a) ≡ None → list_any has_resources a.groups ≡ true
resources_given a e = elim (cases_Bool (list_any has_resources a.groups)) [
  | inl given ↦ given
  | inr missing ↦ absurd (some_none (rw missing at e))
]
  where
    some_none : Some no_resources ≡ None → ⊥
    some_none e = cc

pub accepted_ask : AcceptedAsk
unfolding asks_units query_fault
accepted_ask version query e =
    let asked = asked_by version (pairs_of query) in
    some_group 0 asked.groups (query_in_order version (pairs_of query)).needs (resources_given asked (later_none (text_conditions version query) (asked_conditions asked) e))
