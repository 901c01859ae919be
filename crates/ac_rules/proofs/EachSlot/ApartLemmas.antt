-- Isolate, tested slot after slot, says it of every two.
use Rattle.std.proofs.Common.{◌≡◌, ◌≢◌, ℕ, ◌<◌, zero, suc, Bool, true, List, [], ◌∷◌, length, slice_index_or, refl, arith}
use Rattle.std.specs.List.{list_all}
use Rattle.std.proofs.lemmas.Bool.Decides.{nat_tests}
use Rattle.std.proofs.lemmas.Bool.{and_parts, and_from, eq-eqb, false≢true}
use Rattle.std.proofs.lemmas.List.Elements.{All-get_or, All-from_get_or}
use Rattle.std.proofs.lemmas.List.Sums.{AllPass-from_list_all, list_all-from_AllPass}
use Rattle.ac_rules.specs.Placed.{Placed}
use Rattle.ac_rules.specs.Together.{is_set_apart, are_apart, all_apart, isolate}
use Rattle.ac_rules.specs.Laws.{StandApart, IsolateSaysApart}

all_at : (f : Placed → Bool) (d : Placed) (xs : List Placed) (j : ℕ) → list_all f xs ≡ true → j < length xs → f (slice_index_or xs j d) ≡ true
all_at f d xs j h k = All-get_or (λ x. f x ≡ true) xs j d k (AllPass-from_list_all f xs h)

all_from : (f : Placed → Bool) (d : Placed) (xs : List Placed) → ((j : ℕ) → j < length xs → f (slice_index_or xs j d) ≡ true) → list_all f xs ≡ true
all_from f d xs h = list_all-from_AllPass f xs (All-from_get_or (λ x. f x ≡ true) xs d h)

differ : (x y : Placed) → are_apart x y ≡ true → is_set_apart x.slot ≡ true → is_set_apart y.slot ≡ true → x.provider ≢ y.provider
unfolding are_apart
differ x y h s t e = let same = eq-eqb x.provider y.provider e in false≢true (rw (s, t, same) at h)

apart_of : (x y : Placed) → (is_set_apart x.slot ≡ true → is_set_apart y.slot ≡ true → x.provider ≢ y.provider) → are_apart x y ≡ true
unfolding are_apart
apart_of x y h = grind (arith, nat_tests, h)

apart_sound : (xs : List Placed) → all_apart xs ≡ true → StandApart xs
apart_sound [] h i j d l k = absurd (omega arith)
apart_sound (x ∷ xs) h i zero d l k = absurd (omega arith)
apart_sound (x ∷ xs) h zero (suc j) d l k =
    differ x (slice_index_or xs j d) (all_at (λ y. are_apart x y) d xs j (and_parts (list_all (λ y. are_apart x y) xs) (all_apart xs) h).0 (omega arith))
apart_sound (x ∷ xs) h (suc i) (suc j) d l k = apart_sound xs (and_parts (list_all (λ y. are_apart x y) xs) (all_apart xs) h).1 i j d (omega arith) (omega arith)

apart_whole : (xs : List Placed) → StandApart xs → all_apart xs ≡ true
apart_whole [] h = refl
apart_whole (x ∷ xs) h = and_from (list_all (λ y. are_apart x y) xs) (all_apart xs)
    (all_from (λ y. are_apart x y) x xs (λ j k. apart_of x (slice_index_or xs j x) (h zero (suc j) x (omega arith) (omega arith))))
    (apart_whole xs (λ i j d l k. h (suc i) (suc j) d (omega arith) (omega arith)))

pub isolate_says_apart : IsolateSaysApart
unfolding isolate
isolate_says_apart asked xs e = (λ h. apart_sound xs (rw e at h), λ h. rw e (apart_whole xs h))
