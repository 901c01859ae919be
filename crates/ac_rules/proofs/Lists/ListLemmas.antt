-- All lists of numbers: each once, in order.
use Rattle.std.proofs.Common.{◌≡◌, ℕ, ◌+◌, ◌<◌, ◌≤◌, zero, suc, Bool, true, List, [], ◌∷◌, ◌++◌, inl, inr, map, refl, ap, arith}
use Rattle.std.specs.List.{flat_map, filter, range_with_len, AllByRecursion as Each}
use Rattle.std.proofs.lemmas.Bool.{cases_Bool, cases_lt}
use Rattle.std.proofs.lemmas.Bool.Decides.{nat_tests}
use Rattle.std.proofs.lemmas.List.Elements.{All-nil, All-cons, All-head, All-tail}
use Rattle.ac_rules.specs.Lists.{all_lists, IsListBelow, IsRising, lex_lt}
use Rattle.ac_rules.proofs.Elements.{Among, each_append, each_map, each_weaker, each_all, among_map, among_flat_map, each_filter}

-- the lists of ls, each behind a number of ps
abbrev pub under : List (List ℕ) → List ℕ → List (List ℕ)
under ls ps = flat_map (λ first. map (λ t. first ∷ t) ls) ps

pub rising_append : (xs ys : List (List ℕ)) → IsRising xs → IsRising ys → Each (λ x. Each (λ y. lex_lt x y ≡ true) ys) xs → IsRising (xs ++ ys)
rising_append [] ys h k b = k
rising_append (x ∷ xs) ys h k b = (each_append (λ y. lex_lt x y ≡ true) xs ys h.0 b.0, rising_append xs ys h.1 k b.1)

rising_map : (p : ℕ) (xs : List (List ℕ)) → IsRising xs → IsRising (map (λ t. p ∷ t) xs)
rising_map p [] h = tt
rising_map p (x ∷ xs) h = (
  each_map (λ y. lex_lt (p ∷ x) y ≡ true) (λ t. p ∷ t) xs
      (each_weaker (λ y. lex_lt x y ≡ true) (λ y. lex_lt (p ∷ x) (p ∷ y) ≡ true) xs (λ y e. grind (arith, nat_tests)) h.0),
  rising_map p xs h.1,
)

pub rising_filter : (test : List ℕ → Bool) (xs : List (List ℕ)) → IsRising xs → IsRising (filter test xs)
rising_filter test [] h = tt
rising_filter test (x ∷ xs) h = elim (cases_Bool (test x)) [
  | inl e ↦ rw e (each_weaker _ (λ y. lex_lt x y ≡ true) (filter test xs) (λ y q. q.1) (each_filter (λ y. lex_lt x y ≡ true) test xs h.0), rising_filter test xs h.1)
  | inr e ↦ rw e (rising_filter test xs h.1)
]

pub each_under : (P : List ℕ → Type 0) (ls : List (List ℕ)) (a m : ℕ) → ((p : ℕ) → a ≤ p → p < a + m → Each (λ t. P (p ∷ t)) ls) → Each P (under ls (range_with_len a m))
each_under P ls a zero f = tt
each_under P ls a (suc m) f = each_append P (map (λ t. a ∷ t) ls) (under ls (range_with_len (a + 1) m))
    (each_map P (λ t. a ∷ t) ls (f a (omega arith) (omega arith))) (each_under P ls (a + 1) m (λ p low high. f p (omega arith) (omega arith)))

rising_under : (ls : List (List ℕ)) → IsRising ls → (a m : ℕ) → IsRising (under ls (range_with_len a m))
rising_under ls h a zero = tt
rising_under ls h a (suc m) =
    let more = under ls (range_with_len (a + 1) m) in
    rising_append (map (λ t. a ∷ t) ls) more (rising_map a ls h) (rising_under ls h (a + 1) m)
    (each_map (λ x. Each (λ y. lex_lt x y ≡ true) more) (λ t. a ∷ t) ls
    (each_all (λ t. Each (λ y. lex_lt (a ∷ t) y ≡ true) more) ls
    (λ t. each_under (λ y. lex_lt (a ∷ t) y ≡ true) ls (a + 1) m (λ p low high. each_all (λ u. lex_lt (a ∷ t) (p ∷ u) ≡ true) ls (λ u. grind (arith, nat_tests))))))

-- they rise
pub rising_all_lists : (n k : ℕ) → IsRising (all_lists n k)
rising_all_lists n zero = (tt, tt)
rising_all_lists n (suc k) = rising_under (all_lists n k) (rising_all_lists n k) 0 n

pub among_range : (a m p : ℕ) → a ≤ p → p < a + m → Among (range_with_len a m) p
among_range a zero p h k = absurd (omega arith)
among_range a (suc m) p h k = elim (cases_lt a p) [ inl l ↦ inr (among_range (a + 1) m p (omega arith) (omega arith)) | inr g ↦ inl (omega arith) ]

-- each list of k numbers below n is there
pub among_all_lists : (n k : ℕ) (t : List ℕ) → IsListBelow n k t → Among (all_lists n k) t
among_all_lists n zero [] h = inl refl
among_all_lists n zero (p ∷ t) h = absurd (omega arith)
among_all_lists n (suc k) [] h = absurd (omega arith)
among_all_lists n (suc k) (p ∷ t) h =
    among_flat_map (λ p. map (λ t. p ∷ t) (all_lists n k)) (range_with_len 0 n) p (p ∷ t)
    (among_range 0 n p (omega arith) (let b : p < n = All-head (λ p. p < n) p t h.below in omega arith))
    (among_map (λ t. p ∷ t) (all_lists n k) t
    (among_all_lists n k t (record { long = omega arith; below = All-tail (λ p. p < n) p t h.below })))

-- and nothing else
pub each_all_lists : (n k : ℕ) → Each (IsListBelow n k) (all_lists n k)
each_all_lists n zero = (record { long = refl; below = All-nil (λ p. p < n) }, tt)
each_all_lists n (suc k) = each_under (IsListBelow n (suc k)) (all_lists n k) 0 n
    (λ p low b. each_weaker (IsListBelow n k) (λ t. IsListBelow n (suc k) (p ∷ t)) (all_lists n k)
    (λ t h. record { long = ap suc h.long; below = All-cons (λ p. p < n) p t (omega arith) h.below }) (each_all_lists n k))
