-- Slots by their places, and their groups.
use Rattle.std.proofs.Common.{◌≡◌, ℕ, ◌<◌, List, [], length, Option, Some, refl, sym, ap, ◌∙◌, slice_index_or, get_or, slice_get}
use Rattle.std.specs.List.{AllByRecursion as Each}
use Rattle.std.proofs.lemmas.Option.{slice_get-get_or, slice_get_within, get_or_from_slice_get}
use Rattle.std.proofs.lemmas.List.Elements.{All-get_or, All-from_recursion}
use Rattle.ac_query.specs.Asked.{in_subtree, lists_suffix, Asked, Group, slots_of}
use Rattle.ac_query.proofs.SlotPlaces.{slots_name_groups}
use Rattle.ac_rules.specs.Placed.{slot_at, no_slot}

pub each_at : {X : Type 0} (P : X → Type 0) (xs : List X) (i : ℕ) (d : X) → Each P xs → i < length xs → P (slice_index_or xs i d)
each_at P xs i d h k = All-get_or P xs i d k (All-from_recursion P xs h)

-- the group of a slot stands at its place
group_there : (asked : Asked) (s : ℕ) → s < length (slots_of asked)
    → slice_get asked.groups (slot_at asked s).place ≡ Some ((slot_at asked s).suffix, (slot_at asked s).group)
group_there asked s h = each_at (λ s. slice_get asked.groups s.place ≡ Some (s.suffix, s.group)) (slots_of asked) s no_slot (slots_name_groups asked) h

pub place_within : (asked : Asked) (s : ℕ) → s < length (slots_of asked) → (slot_at asked s).place < length asked.groups
place_within asked s h =
    slice_get_within asked.groups (slot_at asked s).place ((slot_at asked s).suffix, (slot_at asked s).group) (group_there asked s h)

-- the group that stands there
pub slot_entry : (asked : Asked) (s : ℕ) (d : Option (List ℕ) × Group) → s < length (slots_of asked)
    → get_or asked.groups (slot_at asked s).place d ≡ ((slot_at asked s).suffix, (slot_at asked s).group)
slot_entry asked s d h =
    get_or_from_slice_get asked.groups (slot_at asked s).place ((slot_at asked s).suffix, (slot_at asked s).group) d (group_there asked s h)

-- the group of a slot, with its suffix; slots at whose places one stands have the same
abbrev pub entry_at : Asked → ℕ → Option (List ℕ) × Group
entry_at asked s = ((slot_at asked s).suffix, (slot_at asked s).group)

pub one_group : (asked : Asked) (s t : ℕ) → s < length (slots_of asked) → t < length (slots_of asked) → (slot_at asked s).place ≡ (slot_at asked t).place → entry_at asked s ≡ entry_at asked t
one_group asked s t h j same =
    sym (slot_entry asked s (entry_at asked s) h) ∙ (ap (λ (i : ℕ). get_or asked.groups i (entry_at asked s)) same ∙ slot_entry asked t (entry_at asked s) j)

-- whether a `same_subtree` lists a slot
pub listed_at : (asked : Asked) (k s : ℕ) → k < length asked.subtrees → s < length (slots_of asked)
    → in_subtree asked k s ≡ lists_suffix (get_or asked.subtrees k []) (slot_at asked s).suffix
listed_at asked k s h j = rw (slice_get-get_or asked.subtrees k [] h, slice_get-get_or (slots_of asked) s no_slot j) refl
