-- Slots, and the groups and classes that they name.
use Rattle.std.proofs.lemmas.Grind.{common_steps}
use Rattle.std.proofs.Common.{◌≡◌, ◌⊎◌, inl, inr, false, ℕ, ◌+◌, ◌<◌, ◌≤◌, add-one, arith, List, [], ◌∷◌, ◌++◌, length, map, take, drop, get_or, Option, Some, None, IfSome, IsSome, refl, sym, ap, ap₂, ◌∙◌, subst, append_assoc, drop-cons}
use Rattle.std.specs.List.{slice_get}
use Rattle.std.specs.Option.{option_map, option_and_then}
use Rattle.std.proofs.lemmas.List.{map-append, length-map, take_more, take_all}
use Rattle.std.proofs.lemmas.Option.{slice_get_cases, slice_get-get_or, slice_get-map, slice_get_read, slice_get_within, get_or_from_slice_get}
use Rattle.ac_query.specs.declared.slot.Slot as rust
use Rattle.ac_query.specs.Asked.{Group, Slot, class_slot, group_slots, slots_from, lists_suffix, lists_slot}
use Rattle.ac_query.specs.Shown.Slots.{slot_group, slot_in, slot_shown}

some-some : {X : Type 0} (o : Option X) (x : Option X) → Some x ≡ option_map (λ s. Some s) o → x ≡ o
some-some o x h = grind (arith, common_steps)

-- a slot that is made of an entry, where a whole group's slot has all its needs
record IsMadeOf (i : ℕ) (c : Option ℕ) (e : Option (List ℕ) × Group) (s : Slot) : Type 0 where
  place : i ≡ s.place
  entry : e ≡ (s.suffix, s.group)
  whole : c ≡ None → e.1.needs ≡ s.needs

made_of : (i : ℕ) (c : Option ℕ) (e : Option (List ℕ) × Group) → IfSome (slot_in i c e) (IsMadeOf i c e)
made_of i None (None, g) = tt
made_of i None (Some t, g) = record { place = refl; entry = refl; whole = λ w. refl }
made_of i (Some j) (None, g) = of (slice_get g.needs j)
  where
    of : (o : Option (List ℕ × ℕ)) → IfSome (option_map (class_slot i g) o) (IsMadeOf i (Some j) (None, g))
    of None = tt
    of (Some n) = record { place = refl; entry = refl; whole = λ w. absurd (cc) }
made_of i (Some j) (Some t, g) = tt

-- ---- what the slots of a query are
module _ (gs : List (Option (List ℕ) × Group)) where
  -- a slot that shows as one
  is_of : (x : rust.Slot) (s : Slot) → slot_shown gs x ≡ Some s → (e : Option (List ℕ) × Group) × (slice_get gs x.group ≡ Some e) × IsMadeOf x.group x.class e s
  is_of x s shown = grind (arith, common_steps, made_of)

  pub slot_at : (slots : List rust.Slot) (ss : List Slot) → map (slot_shown gs) slots ≡ map (λ s. Some s) ss → (i : ℕ) (x : rust.Slot) → slice_get slots i ≡ Some x
      → slot_shown gs x ≡ slice_get ss i
  slot_at slots ss fits i x is =
      some-some (slice_get ss i) (slot_shown gs x)
      (sym (slice_get-map (slot_shown gs) slots i ∙ ap (option_map (slot_shown gs)) is) ∙ ap (λ l. slice_get l i) fits ∙ slice_get-map (λ s. Some s) ss i)

  pub slots_count : (slots : List rust.Slot) (ss : List Slot) → map (slot_shown gs) slots ≡ map (λ s. Some s) ss → length slots ≡ length ss
  slots_count slots ss fits = sym (length-map slots (slot_shown gs)) ∙ ap length fits ∙ length-map {B = Option Slot} ss (λ s. Some s)

  pub group_within : (x : rust.Slot) (o : Option Slot) → slot_shown gs x ≡ o → IsSome o → x.group < length gs
  group_within x None shown there = absurd (cc)
  group_within x (Some s) shown there = let of = is_of x s shown in slice_get_within gs x.group of.0 of.1

  pub places_are : (slots : List rust.Slot) (ss : List Slot) → map (slot_shown gs) slots ≡ map (λ s. Some s) ss → map slot_group slots ≡ map (λ s. s.place) ss
  places_are [] [] h = refl
  places_are [] (s ∷ ss) h = absurd (cc)
  places_are (x ∷ xs) [] h = absurd (cc)
  places_are (x ∷ xs) (s ∷ ss) h =
      let first : slot_shown gs x ≡ Some s = cc in
      let rest : map (slot_shown gs) xs ≡ map (λ s. Some s) ss = cc in
      ap₂ (λ a b. a ∷ b) ((is_of x s first).2.place) (places_are xs ss rest)

-- ---- a slot of an entry
module _ (gs : List (Option (List ℕ) × Group)) (x : rust.Slot) (e : Option (List ℕ) × Group) (is : slice_get gs x.group ≡ Some e) where
  of_entry : (s : Slot) → slot_shown gs x ≡ Some s → IsMadeOf x.group x.class e s
  of_entry s shown = subst (λ o. IfSome o (IsMadeOf x.group x.class e)) (sym (ap (option_and_then (slot_in x.group x.class)) is) ∙ shown) (made_of x.group x.class e)

  -- whether a list names the group of the slot
  pub listed_is : (o : Option Slot) → slot_shown gs x ≡ o → IsSome o → (list : Option (List (List ℕ))) (names : List (List ℕ)) → list ≡ Some names → lists_suffix names e.0 ≡ lists_slot list o
  listed_is None shown there list names at = absurd (cc)
  listed_is (Some s) shown there list names at = ap (λ d. lists_suffix names d.0) (of_entry s shown).entry ∙ ap (λ l. lists_slot l (Some s)) (sym at)

  pub none_listed : (o : Option Slot) → slot_shown gs x ≡ o → IsSome o → (list : Option (List (List ℕ))) → e.0 ≡ None → false ≡ lists_slot list o
  none_listed o shown there list plain = grind (arith, common_steps, there, listed_is)

  -- what the slot of a whole group needs
  pub needs_whole : (o : Option Slot) → slot_shown gs x ≡ o → IsSome o → x.class ≡ None → Some e.1.needs ≡ option_map (λ s. s.needs) o
  needs_whole o shown there whole = grind (arith, common_steps, there, whole, of_entry)

-- a slot that is there
pub slot_there : (ss : List Slot) (s : ℕ) (o : Option Slot) → s < length ss → o ≡ slice_get ss s → IsSome o
slot_there ss s o l is = subst IsSome (sym is) (there (slice_get_cases ss s).1)
  where
    there : ((x : Slot) × (s < length ss) × (slice_get ss s ≡ Some x) × (get_or ss s x ≡ x)) ⊎ ((length ss ≤ s) × (slice_get ss s ≡ None)) → IsSome (slice_get ss s)
    there (inl h) = rw h.2 refl
    there (inr h) = absurd (omega (arith, h.0, l))

-- a read of a list of elements that are shown
pub shown_read : {X Y : Type 0} (f : X → Y) (xs : List X) (i : ℕ) (x : X) → i < length (map f xs) → x ≡ get_or xs i x → slice_get (map f xs) i ≡ Some (f x)
shown_read f xs i x l is = slice_get-map f xs i ∙ ap (option_map f) (slice_get_read xs (length xs) i x refl (omega (arith, length-map xs f)) is)

-- ---- the slots of groups, as they are made
module _ (gs : List (Option (List ℕ) × Group)) (i : ℕ) where
  pub suffix_pushed : (e : Option (List ℕ) × Group) (s : List ℕ) (have new : List rust.Slot) → slice_get gs i ≡ Some e → e.0 ≡ Some s → new ≡ have ++ record { group = i; class = None } ∷ []
      → map (slot_shown gs) new ≡ map (slot_shown gs) have ++ map (λ s. Some s) (group_slots i e)
  suffix_pushed e s have new is named added = grind (arith, common_steps, map-append)

  class_shown : (e : Option (List ℕ) × Group) → slice_get gs i ≡ Some e → e.0 ≡ None → (n : ℕ) (need : List ℕ × ℕ) → slice_get e.1.needs n ≡ Some need
      → slot_shown gs (record { group = i; class = Some n }) ≡ Some (class_slot i e.1 need)
  class_shown e is plain n need at = grind (arith, common_steps)

  -- some slots, and those of the first classes of a group
  abbrev pub with_classes : List (Option Slot) → Option (List ℕ) × Group → ℕ → List (Option Slot)
  with_classes base e n = base ++ map (λ s. Some s) (map (class_slot i e.1) (take n e.1.needs))

  pub class_pushed : (base : List (Option Slot)) (e : Option (List ℕ) × Group) (have new : List rust.Slot) (n : ℕ) → slice_get gs i ≡ Some e → e.0 ≡ None → n < length e.1.needs
      → new ≡ have ++ record { group = i; class = Some n } ∷ [] → map (slot_shown gs) have ≡ with_classes base e n → map (slot_shown gs) new ≡ with_classes base e (n + 1)
  class_pushed base e have new n is plain l added holds =
      let need : List ℕ × ℕ = get_or e.1.needs n ([], 0) in
      ap (map (slot_shown gs)) added
      ∙ map-append (slot_shown gs) have _
      ∙ ap₂ (λ a b. a ++ b ∷ []) holds (class_shown e is plain n need (slice_get-get_or e.1.needs n ([], 0) l))
      ∙ append_assoc base (map (λ s. Some s) (map (class_slot i e.1) (take n e.1.needs))) (Some (class_slot i e.1 need) ∷ [])
      ∙ ap (λ l. base ++ l) (sym (
      ap (λ l. map (λ s. Some s) (map (class_slot i e.1) l)) (take_more e.1.needs n ([], 0) l)
      ∙ ap (map (λ s. Some s)) (map-append (class_slot i e.1) (take n e.1.needs) (need ∷ []))
      ∙ map-append (λ s. Some s) (map (class_slot i e.1) (take n e.1.needs)) (class_slot i e.1 need ∷ [])))

  pub classes_all : (base : List (Option Slot)) (e : Option (List ℕ) × Group) (n : ℕ) → e.0 ≡ None → length e.1.needs ≤ n → with_classes base e n ≡ base ++ map (λ s. Some s) (group_slots i e)
  classes_all base e n plain end = grind (arith, common_steps, take_all)

  -- a turn of the loop over the groups
  pub slots_go_on : (e : Option (List ℕ) × Group) (have more whole : List (Option Slot)) → slice_get gs i ≡ Some e → more ≡ have ++ map (λ s. Some s) (group_slots i e)
      → have ++ map (λ s. Some s) (slots_from i (drop i gs)) ≡ whole → more ++ map (λ s. Some s) (slots_from (i + 1) (drop (i + 1) gs)) ≡ whole
  slots_go_on e have more whole is added holds =
      let l : i < length gs = slice_get_within gs i e is in
      let opened : drop i gs ≡ e ∷ drop (i + 1) gs = rw (add-one, drop-cons gs i e, get_or_from_slice_get gs i e e is) refl in
      ap (λ l. l ++ map (λ s. Some s) (slots_from (i + 1) (drop (i + 1) gs))) added
      ∙ append_assoc have (map (λ s. Some s) (group_slots i e)) _
      ∙ ap (λ l. have ++ l) (sym (map-append (λ s. Some s) (group_slots i e) (slots_from (i + 1) (drop (i + 1) gs))))
      ∙ ap (λ l. have ++ map (λ s. Some s) (slots_from i l)) (sym opened)
      ∙ holds
