-- A query without one of its lists, and without what its group without a suffix requires: its slots and its entries stay.
use Rattle.std.proofs.Common.{◌≡◌, ◌∙◌, ℕ, zero, suc, ◌+◌, List, [], ◌∷◌, ◌++◌, map, Option, Some, None, sum_by, refl, sym, ap, ap₂}
use Rattle.std.specs.List.{remove, slice_get}
use Rattle.std.specs.List.Sorted.{IsStrictlySortedBy}
use Rattle.std.specs.Option.{option_map, option_and_then}
use Rattle.std.proofs.lemmas.List.{map-append}
use Rattle.std.proofs.lemmas.List.Sums.{sum_by-cons}
use Rattle.std.proofs.lemmas.Option.{slice_get-map}
use Rattle.ac_base.specs.Texts.{text_cmp}
use Rattle.ac_query.specs.declared.slot.Slot as rust
use Rattle.ac_query.specs.Asked.{Group, Slot, class_slot, group_slots, slots_from}
use Rattle.ac_query.specs.Faults.{entry_count}
use Rattle.ac_query.specs.Shown.Slots.{slot_in, slot_shown}
use Rattle.ac_query.specs.Without.{relaxed}

-- no names rise
pub none_rise : IsStrictlySortedBy text_cmp []
unfolding IsStrictlySortedBy
none_rise = tt

-- what is shown of a list without an item
pub remove_shown : {X Y : Type 0} (f : X → Y) (xs : List X) (k : ℕ) → map f (remove xs k) ≡ remove (map f xs) k
remove_shown f [] zero = refl
remove_shown f [] (suc k) = refl
remove_shown f (x ∷ xs) zero = refl
remove_shown f (x ∷ xs) (suc k) = ap (λ l. f x ∷ l) (remove_shown f xs k)

-- ---- slots

-- a slot of a relaxed group
abbrev slot_relaxed : Slot → Slot
slot_relaxed s = record s { group = (relaxed (s.suffix, s.group)).1 }

classes_relaxed : (i : ℕ) (g : Group) (needs : List (List ℕ × ℕ)) → map (class_slot i (relaxed (None, g)).1) needs ≡ map slot_relaxed (map (class_slot i g) needs)
classes_relaxed i g [] = refl
classes_relaxed i g (n ∷ ns) = ap (λ l. class_slot i (relaxed (None, g)).1 n ∷ l) (classes_relaxed i g ns)

group_relaxed : (i : ℕ) (e : Option (List ℕ) × Group) → group_slots i (relaxed e) ≡ map slot_relaxed (group_slots i e)
group_relaxed i (None, g) = classes_relaxed i g g.needs
group_relaxed i (Some s, g) = refl

slots_relaxed : (i : ℕ) (gs : List (Option (List ℕ) × Group)) → slots_from i (map relaxed gs) ≡ map slot_relaxed (slots_from i gs)
slots_relaxed i [] = refl
slots_relaxed i (e ∷ gs) =
    ap₂ (λ a b. a ++ b) (group_relaxed i e) (slots_relaxed (i + 1) gs) ∙ sym (map-append slot_relaxed (group_slots i e) (slots_from (i + 1) gs))

in_relaxed : (i : ℕ) (c : Option ℕ) (e : Option (List ℕ) × Group) → slot_in i c (relaxed e) ≡ option_map slot_relaxed (slot_in i c e)
in_relaxed i None (None, g) = refl
in_relaxed i None (Some s, g) = refl
in_relaxed i (Some j) (None, g) = of (slice_get g.needs j)
  where
    of : (o : Option (List ℕ × ℕ)) → option_map (class_slot i (relaxed (None, g)).1) o ≡ option_map slot_relaxed (option_map (class_slot i g) o)
    of None = refl
    of (Some n) = refl
in_relaxed i (Some j) (Some s, g) = refl

then_relaxed : (i : ℕ) (c : Option ℕ) (o : Option (Option (List ℕ) × Group))
    → option_and_then (slot_in i c) (option_map relaxed o) ≡ option_map slot_relaxed (option_and_then (slot_in i c) o)
then_relaxed i c None = refl
then_relaxed i c (Some e) = in_relaxed i c e

module _ (gs : List (Option (List ℕ) × Group)) where
  shown_relaxed : (x : rust.Slot) → slot_shown (map relaxed gs) x ≡ option_map slot_relaxed (slot_shown gs x)
  shown_relaxed x =
      ap (option_and_then (slot_in x.group x.class)) (slice_get-map relaxed gs x.group) ∙ then_relaxed x.group x.class (slice_get gs x.group)

  all_relaxed : (slots : List rust.Slot) (ss : List Slot) → map (slot_shown gs) slots ≡ map (λ s. Some s) ss
      → map (slot_shown (map relaxed gs)) slots ≡ map (λ s. Some s) (map slot_relaxed ss)
  all_relaxed [] [] h = refl
  all_relaxed [] (s ∷ ss) h = absurd (cc)
  all_relaxed (x ∷ xs) [] h = absurd (cc)
  all_relaxed (x ∷ xs) (s ∷ ss) h =
      let first : slot_shown gs x ≡ Some s = cc in
      let rest : map (slot_shown gs) xs ≡ map (λ s. Some s) ss = cc in
      ap₂ (λ a b. a ∷ b) (shown_relaxed x ∙ ap (option_map slot_relaxed) first) (all_relaxed xs ss rest)

  -- slots that are those of groups are those of the relaxed groups, too
  pub slotted_relaxed : (slots : List rust.Slot) → map (slot_shown gs) slots ≡ map (λ s. Some s) (slots_from 0 gs)
      → map (slot_shown (map relaxed gs)) slots ≡ map (λ s. Some s) (slots_from 0 (map relaxed gs))
  slotted_relaxed slots are = all_relaxed slots (slots_from 0 gs) are ∙ ap (map (λ s. Some s)) (sym (slots_relaxed 0 gs))

-- ---- entries

entry_relaxed : (e : Option (List ℕ) × Group) → entry_count (relaxed e) ≡ entry_count e
entry_relaxed (None, g) = refl
entry_relaxed (Some s, g) = refl

pub entries_relaxed : (gs : List (Option (List ℕ) × Group)) → sum_by entry_count (map relaxed gs) ≡ sum_by entry_count gs
entries_relaxed [] = refl
entries_relaxed (e ∷ gs) =
    sum_by-cons entry_count (relaxed e) (map relaxed gs)
    ∙ ap₂ (λ a b. a + b) (entry_relaxed e) (entries_relaxed gs)
    ∙ sym (sum_by-cons entry_count e gs)
