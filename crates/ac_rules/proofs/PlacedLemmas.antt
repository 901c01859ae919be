-- Slots with their providers, one after another.
use Rattle.std.proofs.Common.{◌≡◌, ℕ, ◌+◌, ◌<◌, ◌≤◌, List, [], ◌∷◌, ◌++◌, length, drop, refl, ap, slice_index, slice_index_or}
use Rattle.std.proofs.lemmas.List.{drop_more, drop_all}
use Rattle.ac_query.specs.Asked.{Slot}
use Rattle.ac_rules.specs.Placed.{placed}

-- from place i on: the slot there with its provider, and then the rest
pub placed_more : (ss : List Slot) (t : List ℕ) (i : ℕ) (d : Slot) → i < length t → i < length ss
    → placed (drop i ss) (drop i t) ≡ record { slot = slice_index_or ss i d; provider = slice_index t i } ∷ placed (drop (i + 1) ss) (drop (i + 1) t)
placed_more ss t i d h k = rw (drop_more ss i d k, drop_more t i 0 h)

-- the front of a list goes to the front of the slots
pub placed_append : (ss : List Slot) (q v : List ℕ) → placed ss (q ++ v) ≡ placed ss q ++ placed (drop (length q) ss) v
placed_append [] [] v = refl
placed_append [] (p ∷ q) v = refl
placed_append (s ∷ ss) [] v = refl
placed_append (s ∷ ss) (p ∷ q) v = ap (λ xs. record { slot = s; provider = p } ∷ xs) (placed_append ss q v)

pub placed_none : (ss : List Slot) → placed ss [] ≡ []
placed_none [] = refl
placed_none (s ∷ ss) = refl

-- from place 0 on: all
pub placed_whole : (ss : List Slot) (t : List ℕ) (i : ℕ) → i ≡ 0 → placed (drop i ss) (drop i t) ≡ placed ss t
placed_whole ss t i h = rw h refl

-- nothing is left past the end
pub placed_end : (ss : List Slot) (t : List ℕ) (i : ℕ) → length t ≤ i → placed (drop i ss) (drop i t) ≡ []
placed_end ss t i h = rw (drop_all i t h) (placed_none (drop i ss))
