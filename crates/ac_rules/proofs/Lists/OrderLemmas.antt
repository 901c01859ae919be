-- The order of lists is strict and total.
use Rattle.std.proofs.Common.{◌≡◌, ℕ, ◌<◌, true, false, List, [], ◌∷◌, map, refl, sym, ◌∙◌, arith}
use Rattle.std.specs.List.{AllByRecursion as Each}
use Rattle.std.proofs.lemmas.Bool.{false_from_ne_true, false≢true}
use Rattle.std.proofs.lemmas.Bool.Decides.{nat_tests}
use Rattle.ac_rules.specs.Lists.{lex_lt}

pub lex_irrefl : (xs : List ℕ) → lex_lt xs xs ≡ false
lex_irrefl [] = refl
lex_irrefl (x ∷ xs) = grind (arith, nat_tests, lex_irrefl xs)

pub lex_trans : (xs ys zs : List ℕ) → lex_lt xs ys ≡ true → lex_lt ys zs ≡ true → lex_lt xs zs ≡ true
lex_trans [] [] zs h k = cc
lex_trans [] (y ∷ ys) [] h k = cc
lex_trans [] (y ∷ ys) (z ∷ zs) h k = refl
lex_trans (x ∷ xs) [] zs h k = cc
lex_trans (x ∷ xs) (y ∷ ys) [] h k = cc
lex_trans (x ∷ xs) (y ∷ ys) (z ∷ zs) h k = grind (arith, nat_tests, lex_trans xs ys zs)

pub lex_total : (xs ys : List ℕ) → lex_lt xs ys ≡ false → lex_lt ys xs ≡ false → xs ≡ ys
lex_total [] [] h k = refl
lex_total [] (y ∷ ys) h k = cc
lex_total (x ∷ xs) [] h k = cc
lex_total (x ∷ xs) (y ∷ ys) h k = grind (arith, nat_tests, lex_total xs ys)

-- not both ways
pub lex_asym : (xs ys : List ℕ) → lex_lt xs ys ≡ true → lex_lt ys xs ≡ false
lex_asym xs ys h = false_from_ne_true _ (λ k. false≢true (sym (lex_irrefl xs) ∙ lex_trans xs ys xs h k))

pub lex_nil : (xs : List ℕ) → lex_lt xs [] ≡ false
lex_nil [] = refl
lex_nil (x ∷ xs) = refl

-- where f rises on the items, the lists of its values are ordered alike
pub lex_map : (f : ℕ → ℕ) (n : ℕ) → ((p q : ℕ) → p < q → q < n → f p < f q) → (xs ys : List ℕ) → Each (λ p. p < n) xs → Each (λ p. p < n) ys
    → lex_lt (map f xs) (map f ys) ≡ lex_lt xs ys
lex_map f n rises [] [] h k = refl
lex_map f n rises [] (y ∷ ys) h k = refl
lex_map f n rises (x ∷ xs) [] h k = refl
lex_map f n rises (x ∷ xs) (y ∷ ys) h k =
    let below : x < n = h.0 in
    let below' : y < n = k.0 in
    let more = lex_map f n rises xs ys h.1 k.1 in
    grind (arith, nat_tests, rises x y, rises y x, more)
