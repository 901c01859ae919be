-- One more root, and its row.
use Rattle.std.proofs.Common.{◌≡◌, ◌∙◌, ℕ, ◌+◌, Bool, true, false, [], ◌∷◌, ◌++◌, map, sym, ap, arith}
use Rattle.std.specs.Prelude.{cond}
use Rattle.std.specs.List.{filter, range_with_len}
use Rattle.std.proofs.lemmas.List.{append-nil, map-append, map-id}
use Rattle.std.proofs.lemmas.List.FromFn.{filter_of_map_range_with_len_more}

one_more : (test : ℕ → Bool) (i : ℕ) → filter test (range_with_len 0 (i + 1)) ≡ filter test (range_with_len 0 i) ++ cond (test i) (i ∷ []) []
one_more test i =
    sym (ap (filter test) (map-id (range_with_len 0 (i + 1))))
    ∙ (filter_of_map_range_with_len_more test (λ (x : ℕ). x) 0 i i (omega arith) ∙ ap (λ xs. filter test xs ++ cond (test i) (i ∷ []) []) (map-id (range_with_len 0 i)))

-- a number that passes a test is the last of those that do
pub row_more : {X : Type 0} (f : ℕ → X) (test : ℕ → Bool) (i : ℕ) → test i ≡ true → map f (filter test (range_with_len 0 (i + 1))) ≡ map f (filter test (range_with_len 0 i)) ++ f i ∷ []
row_more f test i here = rw (one_more test i, here) (map-append f (filter test (range_with_len 0 i)) (i ∷ []))

pub row_same : {X : Type 0} (f : ℕ → X) (test : ℕ → Bool) (i : ℕ) → test i ≡ false → map f (filter test (range_with_len 0 (i + 1))) ≡ map f (filter test (range_with_len 0 i))
row_same f test i away = rw (one_more test i, away) (ap (map f) (append-nil (filter test (range_with_len 0 i))))
