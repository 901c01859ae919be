-- The order of lists that have a common front, or that are cut.
use Rattle.std.proofs.Common.{◌≡◌, ℕ, zero, suc, true, false, List, [], ◌∷◌, ◌++◌, inl, inr, length, take, refl, sym, ap, ◌∙◌, subst, nat_lt, arith, append-nil}
use Rattle.std.proofs.lemmas.Bool.{cases_Bool, true_from_ne_false, false_from_ne_true, false≢true}
use Rattle.std.proofs.lemmas.Bool.Decides.{nat_tests}
use Rattle.ac_rules.specs.Lists.{lex_lt}
use Rattle.ac_rules.proofs.Lists.OrderLemmas.{lex_nil, lex_trans, lex_total, lex_asym}

pub lex_append : (q u w : List ℕ) → lex_lt (q ++ u) (q ++ w) ≡ lex_lt u w
lex_append [] u w = refl
lex_append (x ∷ q) u w = grind (arith, nat_tests, lex_append q u w)

-- t goes on from q, by what is from v on and before w
pub record GoesOn (q t v w : List ℕ) : Type 0 where
  pub more : List ℕ
  pub is : t ≡ q ++ more
  pub from : lex_lt more v ≡ false
  pub before : lex_lt more w ≡ true

-- what lies between two lists with a common front has that front
pub goes_on : (q t v w : List ℕ) → lex_lt t (q ++ v) ≡ false → lex_lt t (q ++ w) ≡ true → GoesOn q t v w
goes_on [] t v w h k = record { more = t; is = refl; from = h; before = k }
goes_on (x ∷ q) [] v w h k = absurd (false≢true (sym h))
goes_on (x ∷ q) (y ∷ t) v w h k =
    let same : y ≡ x = grind (arith, nat_tests) in
    let g = goes_on q t v w (grind (arith, nat_tests)) (grind (arith, nat_tests)) in
    record { more = g.more; is = cc (g.is); from = g.from; before = g.before }

-- one item against another decides, where the bound ends there
pub lex_one : (r a : ℕ) (s : List ℕ) → lex_lt (r ∷ s) (a ∷ []) ≡ nat_lt r a
lex_one r a [] = grind (arith, nat_tests)
lex_one r a (x ∷ s) = grind (arith, nat_tests)

-- at most, then below
pub lex_le_trans : (xs ys zs : List ℕ) → lex_lt ys xs ≡ false → lex_lt ys zs ≡ true → lex_lt xs zs ≡ true
lex_le_trans xs ys zs h k = true_from_ne_false _ (λ f. elim (cases_Bool (lex_lt xs ys)) [ inl b ↦ false≢true (sym f ∙ lex_trans xs ys zs b k) | inr b ↦ false≢true (sym f ∙ subst (λ (w : List ℕ). lex_lt w zs ≡ true) (sym (lex_total xs ys b h)) k) ])

-- below, then at most
pub lex_lt_le : (xs ys zs : List ℕ) → lex_lt xs ys ≡ true → lex_lt zs ys ≡ false → lex_lt xs zs ≡ true
lex_lt_le xs ys zs h k = true_from_ne_false _ (λ f. false≢true (sym k ∙ lex_le_trans zs xs ys f h))

-- a list that is after x cut to its length is after x
pub lex_uncut : (x c : List ℕ) → lex_lt (take (length c) x) c ≡ true → lex_lt x c ≡ true
lex_uncut [] [] h = h
lex_uncut [] (b ∷ c) h = refl
lex_uncut (a ∷ x) [] h = h
lex_uncut (a ∷ x) (b ∷ c) h = grind (arith, nat_tests, lex_uncut x c)

-- a list before c is not after c cut to its length
pub lex_cut : (c w : List ℕ) → lex_lt w c ≡ true → lex_lt (take (length w) c) w ≡ false
lex_cut c w h = false_from_ne_true _ (λ k. false≢true (sym (lex_asym c w (lex_uncut c w k)) ∙ h))

-- a list is not before itself cut
pub lex_take : (x : List ℕ) (n : ℕ) → lex_lt x (take n x) ≡ false
lex_take x zero = lex_nil x
lex_take [] (suc n) = refl
lex_take (a ∷ x) (suc n) = grind (arith, nat_tests, lex_take x n)

-- a list after x is after x cut
pub lex_after_cut : (x c : List ℕ) (n : ℕ) → lex_lt x c ≡ true → lex_lt (take n x) c ≡ true
lex_after_cut x c n h = lex_le_trans (take n x) x c (lex_take x n) h

-- what goes on from a list that is before x cut is before x cut
pub lex_low_more : (x q w : List ℕ) → lex_lt q (take (length q) x) ≡ true → lex_lt (q ++ w) (take (length (q ++ w)) x) ≡ true
lex_low_more [] [] w h = cc
lex_low_more (a ∷ x) [] w h = cc
lex_low_more [] (b ∷ q) w h = cc
lex_low_more (a ∷ x) (b ∷ q) w h = grind (arith, nat_tests, lex_low_more x q w)

pub lex_high_more : (y q w : List ℕ) → lex_lt (take (length q) y) q ≡ true → lex_lt (take (length (q ++ w)) y) (q ++ w) ≡ true
lex_high_more y q w h = lex_after_cut y (q ++ w) (length (q ++ w)) (lex_lt_le y q (q ++ w) (lex_uncut y q h) (ap (λ (u : List ℕ). lex_lt (q ++ w) u) (sym (append-nil q)) ∙ (lex_append q w [] ∙ lex_nil w)))

-- a list is before what goes on from it
pub lex_longer : (q : List ℕ) (b : ℕ) (w : List ℕ) → lex_lt q (q ++ b ∷ w) ≡ true
lex_longer [] b w = refl
lex_longer (a ∷ q) b w = grind (arith, nat_tests, lex_longer q b w)
