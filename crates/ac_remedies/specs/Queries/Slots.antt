-- The slots of a query, as a line names them.
use Rattle.std.specs.Prelude.{ℕ, List, [], ◌∷◌, codes, Option, Some, None}
use Rattle.std.specs.List.{flat_map}
use Rattle.ac_query.specs.Asked.{Asked, Group, slots_of}
use Rattle.ac_remedies.specs.Quoted.{said}

-- a class, with what parts it from what comes behind it
unfoldable pub class_text : List ℕ × ℕ → List ℕ
class_text need = said (need.0 ∷ codes ", " ∷ [])

unfoldable pub suffix_text : List ℕ → List ℕ
suffix_text s = said (codes "\"" ∷ s ∷ codes "\", " ∷ [])

-- a slot: its class, or the suffix of its group
abbrev pub slot_text : Option (List ℕ) → List (List ℕ × ℕ) → List ℕ
slot_text None needs = flat_map class_text needs
slot_text (Some s) needs = suffix_text s

-- the slots of a group: those of its classes where it has no suffix, else one
abbrev pub group_text : Option (List ℕ) × Group → List ℕ
group_text g = slot_text g.0 g.1.needs

-- all slots, in order
unfoldable pub slots_text : Asked → List ℕ
slots_text a = flat_map (λ s. slot_text s.suffix s.needs) (slots_of a)
