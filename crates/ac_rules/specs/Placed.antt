-- Slots, each with its provider.
use Rattle.std.specs.Prelude.{ℕ, List, [], ◌∷◌, None, slice_index_or}
use Rattle.ac_query.specs.Asked.{Asked, Slot, slots_of}

-- a slot, and the place of its provider among all providers
pub record Placed : Type 0 where
  pub slot : Slot
  pub provider : ℕ

-- slots and providers side by side, as far as both go
abbrev pub placed : List Slot → List ℕ → List Placed
placed [] list = []
placed (s ∷ ss) [] = []
placed (s ∷ ss) (p ∷ list) = record { slot = s; provider = p } ∷ placed ss list

-- what a list of providers, or the front of one, gives to the slots of a query
abbrev pub assigned : Asked → List ℕ → List Placed
assigned asked list = placed (slots_of asked) list

-- a slot for the places past the end
unfoldable pub no_slot : Slot
no_slot = record { place = 0; suffix = None; group = record { needs = []; required = []; forbidden = []; any_of = []; member_of = []; in_tree = None }; needs = [] }

-- the slot at a place of a query
abbrev pub slot_at : Asked → ℕ → Slot
slot_at asked s = slice_index_or (slots_of asked) s no_slot

-- a provider in the slot at a place
abbrev pub placed_at : Asked → ℕ → ℕ → Placed
placed_at asked s ix = record { slot = slot_at asked s; provider = ix }
