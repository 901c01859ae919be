-- The text of all slots is that of each group in turn.
use Rattle.std.proofs.lemmas.List.Concat.{flat_map-append}
use Rattle.std.proofs.Common.{◌≡◌, ◌∙◌, ℕ, ◌+◌, List, [], ◌∷◌, ◌++◌, map, Option, Some, None, refl, ap₂, append-nil}
use Rattle.std.specs.List.{flat_map}
use Rattle.ac_query.specs.Asked.{Asked, Group, Slot, class_slot, group_slots, slots_from}
use Rattle.ac_remedies.specs.Queries.Slots.{class_text, group_text, slot_text, slots_text}

abbrev pub slot_told : Slot → List ℕ
slot_told s = slot_text s.suffix s.needs

classes_told : (i : ℕ) (g : Group) (needs : List (List ℕ × ℕ)) → flat_map slot_told (map (class_slot i g) needs) ≡ flat_map class_text needs
classes_told i g [] = refl
classes_told i g (need ∷ needs) = ap₂ (λ (a b : List ℕ). a ++ b) (append-nil (class_text need)) (classes_told i g needs)

group_told : (i : ℕ) (suffix : Option (List ℕ)) (g : Group) → flat_map slot_told (group_slots i (suffix, g)) ≡ group_text (suffix, g)
group_told i None g = classes_told i g g.needs
group_told i (Some s) g = append-nil _

groups_told : (i : ℕ) (gs : List (Option (List ℕ) × Group)) → flat_map slot_told (slots_from i gs) ≡ flat_map group_text gs
groups_told i [] = refl
groups_told i ((suffix, g) ∷ gs) =
    flat_map-append slot_told (group_slots i (suffix, g)) (slots_from (i + 1) gs)
    ∙ ap₂ (λ (a b : List ℕ). a ++ b) (group_told i suffix g) (groups_told (i + 1) gs)

pub slots_told : (a : Asked) → slots_text a ≡ flat_map group_text a.groups
unfolding slots_text
slots_told a = groups_told 0 a.groups
