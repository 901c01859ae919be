-- What slots show.
use Rattle.std.specs.Prelude.{ℕ, List, Option, Some, None}
use Rattle.std.specs.List.{slice_get}
use Rattle.std.specs.Option.{option_map, option_and_then}
use Rattle.ac_query.specs.declared.slot.Slot as rust
use Rattle.ac_query.specs.Asked.{Group, Slot, class_slot, suffix_slot}

-- the place of a slot's group
abbrev pub slot_group : rust.Slot → ℕ
slot_group s = s.group

-- the slot at a place, of one class where one is named
abbrev pub slot_in : ℕ → Option ℕ → Option (List ℕ) × Group → Option Slot
slot_in i None (None, g) = None
slot_in i None (Some s, g) = Some (suffix_slot i s g)
slot_in i (Some j) (None, g) = option_map (class_slot i g) (slice_get g.needs j)
slot_in i (Some j) (Some s, g) = None

-- the slot that is meant, where there is one
abbrev pub slot_shown : List (Option (List ℕ) × Group) → rust.Slot → Option Slot
slot_shown groups s = option_and_then (slot_in s.group s.class) (slice_get groups s.group)
