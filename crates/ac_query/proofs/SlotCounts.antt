-- How many slots a query without a fault has.
use Rattle.std.proofs.lemmas.Grind.{common_steps}
use Rattle.std.proofs.Common.{◌≡◌, ℕ, ◌+◌, ◌<◌, ◌≤◌, true, false, not, List, [], ◌∷◌, length, length-append, map, Option, None, sum_by, refl, sym, ap, subst, ◌∙◌, arith}
use Rattle.std.proofs.Math.Bool.{not-not}
use Rattle.std.proofs.lemmas.Bool.{or_parts}
use Rattle.std.proofs.lemmas.Bool.Decides.{nat_tests}
use Rattle.std.proofs.lemmas.List.{length-map}
use Rattle.std.proofs.lemmas.List.Sums.{sum_by-cons, sum_by-append}
use Rattle.std.specs.List.{list_any}
use Rattle.ac_query.specs.declared.query.Query.{Query}
use Rattle.ac_query.specs.Asked.{Group, Asked, Slot, class_slot, group_slots, slots_from, slots_of}
use Rattle.ac_query.specs.Faults.{first_fault, has_resources, slot_count, entry_count, is_too_large, asked_conditions}
use Rattle.ac_query.specs.Shown.Queries.{asked_of}
use Rattle.ac_query.proofs.Pairs.PairSteps.{holds_not, neither}

-- the slots of a group
count_of : (i : ℕ) (g : Option (List ℕ) × Group) → length (group_slots i g) ≡ slot_count g
count_of i g = grind (arith, common_steps, length-map)

pub length-slots_from : (i : ℕ) (gs : List (Option (List ℕ) × Group)) → length (slots_from i gs) ≡ sum_by slot_count gs
length-slots_from i [] = refl
length-slots_from i (g ∷ gs) = grind (arith, common_steps, length-append, count_of, sum_by-cons, length-slots_from (i + 1) gs)

-- a group with resources has a slot
has_slot : (g : Option (List ℕ) × Group) → has_resources g ≡ true → 0 < slot_count g
has_slot g h = grind (arith, common_steps, nat_tests)

have_slots : (gs : List (Option (List ℕ) × Group)) → list_any has_resources gs ≡ true → 0 < sum_by slot_count gs
have_slots [] h = absurd (cc)
have_slots (g ∷ gs) h = grind (arith, common_steps, has_slot, sum_by-cons, have_slots gs)

module _ (a : Asked) (fine : first_fault (asked_conditions a) ≡ None) where
  some_resources : list_any has_resources a.groups ≡ true
  some_resources = sym (not-not (list_any has_resources a.groups)) ∙ ap (λ b. not b) (holds_not _ _ _ fine).0

  not_too_large : is_too_large a.groups ≡ false
  not_too_large = grind (arith, common_steps, neither, holds_not)

  pub some_slots : 0 < length (slots_from 0 a.groups)
  some_slots = let some = have_slots a.groups some_resources in omega (arith, length-slots_from 0 a.groups)

  pub few_slots : length (slots_from 0 a.groups) ≤ 64
  few_slots = grind (arith, common_steps, or_parts, not_too_large, nat_tests, length-slots_from)

  pub few_entries : sum_by entry_count a.groups ≤ 256
  few_entries = grind (arith, common_steps, or_parts, not_too_large, nat_tests)

-- ---- what all slots of a query need
one_each : (i : ℕ) (g : Group) (needs : List (List ℕ × ℕ)) → sum_by (λ slot. length slot.needs) (map (class_slot i g) needs) ≡ length needs
one_each i g [] = refl
one_each i g (need ∷ needs) = omega (arith, one_each i g needs, sum_by-cons (λ (slot : Slot). length slot.needs) (class_slot i g need) (map (class_slot i g) needs))

needs_of_group : (i : ℕ) (g : Option (List ℕ) × Group) → sum_by (λ slot. length slot.needs) (group_slots i g) ≡ entry_count g
needs_of_group i g = grind (arith, common_steps, one_each)

needs_of_groups : (i : ℕ) (gs : List (Option (List ℕ) × Group)) → sum_by (λ slot. length slot.needs) (slots_from i gs) ≡ sum_by entry_count gs
needs_of_groups i [] = refl
needs_of_groups i (g ∷ gs) = grind (arith, common_steps, sum_by-append, needs_of_group, sum_by-cons, needs_of_groups (i + 1) gs)

-- the slots of a query need at most 256 classes together
pub few_needs : (query : Query) → sum_by (λ slot. length slot.needs) (slots_of (asked_of query)) ≤ 256
few_needs query = subst (λ (n : ℕ). n ≤ 256) (sym (needs_of_groups 0 (asked_of query).groups)) query.few_entries
