-- The lists after a list: its successor, and those after that.
use Rattle.std.proofs.Common.{◌≡◌, ℕ, ◌+◌, ◌-◌, ◌<◌, zero, suc, List, [], ◌∷◌, ◌++◌, length, map, replicate, Option, None, Some, inl, inr, refl, sym, ap, ◌∙◌, subst, arith}
use Rattle.std.specs.List.{All, AllByRecursion as Each, flat_map, range_with_len}
use Rattle.std.proofs.lemmas.Bool.{cases_lt, lt-ltb, le-ltb, ne_eqb}
use Rattle.std.proofs.lemmas.List.{length-replicate}
use Rattle.std.proofs.lemmas.List.Elements.{All-from_recursion, recursion_from_All}
use Rattle.ac_rules.specs.Lists.{all_lists}
use Rattle.ac_rules.specs.Shown.Odometer.{successor, successor_by, headed, lists_after, ahead, start}
use Rattle.ac_rules.specs.declared.plain.odometer.Stage.TheVariants.{Given}
use Rattle.ac_cloud.proofs.Ranges.{range_more, range_end}

-- the lists with a first number from a on begin with a and zeros
headed_first : (n k a : ℕ) → a < n → all_lists n k ≡ replicate k 0 ∷ lists_after n (replicate k 0)
    → headed n (all_lists n k) a ≡ (a ∷ replicate k 0) ∷ lists_after n (a ∷ replicate k 0)
headed_first n k a h zeros =
    let ls = all_lists n k in
    rw (range_more n a h, length-replicate {A = ℕ} k 0)
    (ap (λ (firsts : List (List ℕ)). map (λ t. a ∷ t) firsts ++ headed n ls (a + 1)) zeros)

zeros_first : (n k : ℕ) → 0 < n → all_lists n k ≡ replicate k 0 ∷ lists_after n (replicate k 0)
zeros_first n zero h = refl
zeros_first n (suc k) h =
    let all : n ≡ n - 0 = omega arith in
    ap (λ m. flat_map (λ first. map (λ t. first ∷ t) (all_lists n k)) (range_with_len 0 m)) all ∙ headed_first n k 0 h (zeros_first n k h)

-- z comes next after y
pub record Follows (n : ℕ) (y z : List ℕ) : Type 0 where
  pub long : length z ≡ length y
  pub low : Each (λ p. p < n) y → Each (λ p. p < n) z
  pub after : lists_after n y ≡ z ∷ lists_after n z

abbrev pub IsSuccessor : ℕ → List ℕ → Option (List ℕ) → Type 0
IsSuccessor n y None = lists_after n y ≡ []
IsSuccessor n y (Some z) = Follows n y z

each_zeros : (n k : ℕ) → 0 < n → Each (λ p. p < n) (replicate k 0)
each_zeros n zero h = tt
each_zeros n (suc k) h = (h, each_zeros n k h)

-- the successor, from that of the rest
step_up : (n p : ℕ) (y : List ℕ) (r : Option (List ℕ)) → IsSuccessor n y r → IsSuccessor n (p ∷ y) (successor_by n p (length y) r)
step_up n p y (Some z) h = record { long = ap suc h.long; low = λ e. (e.0, h.low e.1); after = rw (h.after, h.long) refl }
step_up n p y None h = elim (cases_lt (p + 1) n) [
  | inl l ↦
      let k = length y in
      rw (lt-ltb (p + 1) n l) (record {
        long = ap suc (length-replicate k 0);
        low = λ e. (l, each_zeros n k (omega arith));
        after = rw h (headed_first n k (p + 1) l (zeros_first n k (omega arith)));
      })
  | inr g ↦ rw (le-ltb (p + 1) n g) (rw (h, range_end n (p + 1) g) refl)
]

successor_is : (n : ℕ) (y : List ℕ) → IsSuccessor n y (successor n y)
successor_is n [] = refl
successor_is n (p ∷ y) = step_up n p y (successor n y) (successor_is n y)

pub given_next : (n : ℕ) (y z : List ℕ) → successor n y ≡ Some z → ahead n Given y ≡ z ∷ ahead n Given z
given_next n y z is = (subst (IsSuccessor n y) is (successor_is n y)).after

pub given_last : (n : ℕ) (y : List ℕ) → successor n y ≡ None → ahead n Given y ≡ []
given_last n y is = subst (IsSuccessor n y) is (successor_is n y)

pub next_below : (n : ℕ) (y z : List ℕ) → successor n y ≡ Some z → All (λ p. p < n) y → All (λ p. p < n) z
next_below n y z is low =
    let follows : Follows n y z = subst (IsSuccessor n y) is (successor_is n y) in
    All-from_recursion (λ p. p < n) z (follows.low (recursion_from_All (λ p. p < n) y low))

-- at first all are to come
pub start_ahead : (n k : ℕ) (y : List ℕ) → y ≡ replicate k 0 → ahead n (start n k) y ≡ all_lists n k
start_ahead zero zero y is = rw is refl
start_ahead zero (suc k) y is = rw (lt-ltb 0 (suc k) (omega arith)) refl
start_ahead (suc n) k y is = rw (ne_eqb (suc n) 0 (λ e. absurd (omega arith))) (sym (zeros_first (suc n) k (omega arith) ∙ ap (λ t. t ∷ lists_after (suc n) t) (sym is)))
