-- What a walk has met lies between its token and what it gave.
use Rattle.std.proofs.Common.{◌≡◌, ℕ, Bool, ◌+◌, ◌*◌, ◌<◌, ◌≤◌, suc, true, not, List, [], ◌∷◌, ◌++◌, length, take, Option, None, Some, refl, sym, ◌∙◌, arith}
use Rattle.std.specs.List.{filter}
use Rattle.std.proofs.lemmas.Bool.{not_from_false, not-true, false_from_ne_true, false≢true}
use Rattle.std.proofs.lemmas.List.{take-append-le}
use Rattle.std.proofs.Math.Nat.{mul-le-mul_left}
use Rattle.ac_rules.specs.Lists.{lex_lt}
use Rattle.ac_prune.specs.Search.{Search, choices_at, next_at}
use Rattle.ac_search.specs.Search.{all_shorter, next_front, is_up_to, is_between, between, is_met, met, IsSound}
use Rattle.ac_rules.proofs.Elements.{each_weaker, count_less}
use Rattle.ac_search.proofs.Search.FrontOrder.{lex_low_more, lex_high_more, lex_cut}
use Rattle.ac_search.proofs.Search.ShorterLemmas.{each_all_shorter, length-below}
use Rattle.ac_prune.proofs.Search.SoughtLemmas.{IsSearch}

low_front : (x q w : List ℕ) → not (lex_lt (q ++ w) (take (length (q ++ w)) x)) ≡ true → not (lex_lt q (take (length q) x)) ≡ true
low_front x q w h = not_from_false _ (false_from_ne_true _ (λ e. false≢true (sym (not-true _ h) ∙ lex_low_more x q w e)))

up_to_front : (y : Option (List ℕ)) (q w : List ℕ) → is_up_to y (q ++ w) ≡ true → is_up_to y q ≡ true
up_to_front None q w h = refl
up_to_front (Some y) q w h = not_from_false _ (false_from_ne_true _ (λ e. false≢true (sym (not-true _ h) ∙ lex_high_more y q w e)))

pub between_front : (m : Search) → IsSearch m → (x : List ℕ) (y : Option (List ℕ)) (q w : List ℕ) → is_between m x y (q ++ w) ≡ true → is_between m x y q ≡ true
between_front m laws x y q w h = grind (arith, laws.front q w, low_front x q w, up_to_front y q w)

pub length-between : (m : Search) → IsSearch m → (x : List ℕ) (y : Option (List ℕ)) → length (between m x y) ≡ length (filter (λ w. is_between m x y w) (all_shorter m.count m.width))
length-between m laws x y = length-below (λ w. is_between m x y w) m.count (between_front m laws x y) m.width []

-- at the end
pub met_all : (m : Search) → IsSearch m → (x c : List ℕ) → met m x c ≤ length (between m x None)
unfolding met
met_all m laws x c = rw (length-between m laws) (count_less (λ w. is_met m x c w) (λ w. is_between m x None w) (all_shorter m.count m.width)
    (each_weaker (λ w. length w < m.width) (λ w. is_met m x c w ≡ true → is_between m x None w ≡ true) (all_shorter m.count m.width)
    (λ w l h. grind arith)
    (each_all_shorter m.count m.width)))

-- after the list q p the walk stands at q b
pub met_given : (m : Search) → IsSearch m → (x q : List ℕ) (p b : ℕ) → length q + 1 ≡ m.width → met m x (q ++ b ∷ []) ≤ length (between m x (Some (q ++ p ∷ [])))
unfolding met
met_given m laws x q p b size = rw (length-between m laws) (count_less (λ w. is_met m x (q ++ b ∷ []) w) (λ w. is_between m x (Some (q ++ p ∷ [])) w) (all_shorter m.count m.width)
    (each_weaker (λ w. length w < m.width) (λ w. is_met m x (q ++ b ∷ []) w ≡ true → is_between m x (Some (q ++ p ∷ [])) w ≡ true) (all_shorter m.count m.width)
    (λ w l h.
    let cut = lex_cut (q ++ b ∷ []) w in
    let here : take (length w) (q ++ b ∷ []) ≡ take (length w) q = take-append-le (length w) q (b ∷ []) (omega arith) in
    let there : take (length w) (q ++ p ∷ []) ≡ take (length w) q = take-append-le (length w) q (p ∷ []) (omega arith) in
    rw there (grind (arith, rw here at cut)))
    (each_all_shorter m.count m.width)))

-- the tries are bounded, at the end and where the whole path with p at its end is given
module _ {m : Search} (laws : IsSearch m) {x q used : List ℕ} {d j : ℕ} {seeking : Bool} {probes : ℕ} (s : IsSound m x q used d j seeking probes) where
  pub counted_end : probes ≤ m.count * length (between m x None)
  counted_end = let cost = mul-le-mul_left m.count (met_all m laws x (next_front m q d j)) in let was = s.paid in omega arith

  -- there are more where there is one more choice
  pub counted_more : j < length (choices_at m d) → probes < m.count * length (between m x None)
  counted_more more = let cost = mul-le-mul_left m.count (met_all m laws x (next_front m q d j)) in let was = s.paid in omega arith

  pub counted_given : (p : ℕ) → suc d ≡ m.width → probes ≤ m.count * length (between m x (Some (q ++ p ∷ [])))
  counted_given p last = let cost = mul-le-mul_left m.count (met_given m laws x q p (next_at m d j) (omega (arith, s.long))) in let was = s.paid in omega arith
