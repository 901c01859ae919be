-- How a query is read: one more slot.
use Rattle.std.proofs.Common.{◌≡◌, ◌+◌, ◌<◌, ℕ, ◌∷◌, drop, length}
use Rattle.std.proofs.lemmas.List.{drop_more}
use Rattle.ac_query.specs.Asked.{Asked, slots_of}
use Rattle.ac_rules.specs.Placed.{no_slot, slot_at}

-- the slots from one on are that one and those behind it
pub next_slot : (asked : Asked) (s : ℕ) → s < length (slots_of asked) → drop s (slots_of asked) ≡ slot_at asked s ∷ drop (s + 1) (slots_of asked)
next_slot asked s low = drop_more (slots_of asked) s no_slot low
