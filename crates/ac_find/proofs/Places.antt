-- The elements of a list by their places.
use Rattle.std.proofs.Common.{◌≡◌, ◌∙◌, ℕ, ◌+◌, ◌<◌, suc, Bool, List, [], ◌∷◌, length, map, get_or, refl, sym, ap, arith}
use Rattle.std.specs.Prelude.{find}
use Rattle.std.specs.List.{range_with_len}
use Rattle.std.specs.Option.{option_map}
use Rattle.ac_find.proofs.DetailsWritten.{find_shown}

-- a list, place by place
by_places : {X : Type 0} (xs : List X) (d : X) (f : ℕ → X) (a : ℕ) → ((i : ℕ) → i < length xs → f (a + i) ≡ get_or xs i d) → map f (range_with_len a (length xs)) ≡ xs
by_places [] d f a h = refl
by_places (x ∷ xs) d f a h =
    let first : f a ≡ x = ap f (let same : a ≡ a + 0 = omega arith in same) ∙ h 0 (omega arith) in
    let rest : map f (range_with_len (a + 1) (length xs)) ≡ xs = by_places xs d f (a + 1) (λ i low. ap f (let same : a + 1 + i ≡ a + suc i = omega arith in same) ∙ h (suc i) (omega arith)) in
    rw (first, rest) refl

pub found_at : {X : Type 0} (test : X → Bool) (xs : List X) (d : X)
    → option_map (λ k. get_or xs k d) (find (λ k. test (get_or xs k d)) (range_with_len 0 (length xs))) ≡ find test xs
found_at test xs d = sym (find_shown (λ (k : ℕ). get_or xs k d) test (range_with_len 0 (length xs))) ∙ ap (find test) (by_places xs d (λ k. get_or xs k d) 0 (λ i low. ap (λ k. get_or xs k d) (let same : 0 + i ≡ i = omega arith in same)))
