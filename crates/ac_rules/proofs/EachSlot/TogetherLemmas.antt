-- One slot more of what the rules of all slots together test.
use Rattle.std.proofs.Common.{◌≡◌, ◌≢◌, ◌&&◌, ℕ, Some, ◌+◌, ◌<◌, Bool, List, length, drop, ap, arith, slice_index, slice_index_or, nat_le}
use Rattle.std.specs.List.{list_all}
use Rattle.std.proofs.lemmas.Bool.Decides.{nat_tests}
use Rattle.ac_query.specs.Asked.{Slot}
use Rattle.ac_rules.specs.Placed.{placed, no_slot}
use Rattle.ac_rules.specs.Room.{less}
use Rattle.ac_rules.specs.Together.{amount_of, sum_on, are_apart, all_apart}
use Rattle.ac_rules.proofs.PlacedLemmas.{placed_more}

-- a slot stands apart from those behind it, and they from one another
pub apart_more : (ss : List Slot) (t : List ℕ) (i : ℕ) → i < length t → i < length ss
    → all_apart (placed (drop i ss) (drop i t))
    ≡ list_all (λ y. are_apart (record { slot = slice_index_or ss i no_slot; provider = slice_index t i }) y) (placed (drop (i + 1) ss) (drop (i + 1) t))
    && all_apart (placed (drop (i + 1) ss) (drop (i + 1) t))
apart_more ss t i h k = ap all_apart (placed_more ss t i no_slot h k)

-- a slot of another provider asks nothing of this one
pub room_skip : (ss : List Slot) (t : List ℕ) (i ix left : ℕ) (c : List ℕ) (b : Bool) → i < length t → i < length ss → slice_index t i ≢ ix
    → nat_le (sum_on (placed (drop i ss) (drop i t)) ix c) left ≡ b → nat_le (sum_on (placed (drop (i + 1) ss) (drop (i + 1) t)) ix c) left ≡ b
room_skip ss t i ix left c b h k other e = let one = ap (λ xs. sum_on xs ix c) (placed_more ss t i no_slot h k) in grind (arith, nat_tests)

-- nor does it add to a sum
pub sum_skip : (ss : List Slot) (t : List ℕ) (i ix sum all : ℕ) (c : List ℕ) → i < length t → i < length ss → slice_index t i ≢ ix
    → sum + sum_on (placed (drop i ss) (drop i t)) ix c ≡ all → sum + sum_on (placed (drop (i + 1) ss) (drop (i + 1) t)) ix c ≡ all
sum_skip ss t i ix sum all c h k other e = let one = ap (λ xs. sum_on xs ix c) (placed_more ss t i no_slot h k) in grind (arith, nat_tests)

-- what a slot of this provider asks is taken
pub room_take : (ss : List Slot) (t : List ℕ) (i ix left rest : ℕ) (c : List ℕ) (b : Bool) → i < length t → i < length ss → slice_index t i ≡ ix
    → Some rest ≡ less left (amount_of (slice_index_or ss i no_slot).needs c)
    → nat_le (sum_on (placed (drop i ss) (drop i t)) ix c) left ≡ b → nat_le (sum_on (placed (drop (i + 1) ss) (drop (i + 1) t)) ix c) rest ≡ b
room_take ss t i ix left rest c b h k here taken e = let one = ap (λ xs. sum_on xs ix c) (placed_more ss t i no_slot h k) in grind (arith, nat_tests)
