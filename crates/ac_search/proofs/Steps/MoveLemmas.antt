-- The moves of a walk: each keeps what is sound.
use Rattle.std.proofs.Common.{◌≡◌, ℕ, ◌+◌, ◌-◌, ◌<◌, ◌≤◌, zero, suc, Bool, true, false, List, [], ◌∷◌, ◌++◌, inl, inr, length, take, get_or, refl, sym, ◌∙◌, subst, arith, length-append}
use Rattle.std.specs.List.{AllByRecursion as Each}
use Rattle.std.proofs.lemmas.Bool.{cases_Bool, cases_lt, false≢true}
use Rattle.std.proofs.lemmas.List.{get_or_push}
use Rattle.std.proofs.Math.ListN.{get_or-append}
use Rattle.std.proofs.Math.Nat.{mul-le-mul_left}
use Rattle.ac_rules.specs.Lists.{lex_lt}
use Rattle.ac_prune.specs.Search.{Search, sought, choices_at, next_at}
use Rattle.ac_search.specs.Search.{all_shorter, next_front, from, left_from, is_met, met, behind, Enters, IsSound}
use Rattle.ac_rules.proofs.Elements.{each_all, count_less, count_more, filter_all}
use Rattle.ac_rules.proofs.Lists.OrderLemmas.{lex_asym, lex_trans, lex_irrefl, lex_nil}
use Rattle.ac_search.proofs.Search.FrontOrder.{lex_longer, lex_le_trans, lex_uncut, lex_after_cut}
use Rattle.ac_search.proofs.Search.ShorterLemmas.{among_all_shorter}
use Rattle.ac_search.proofs.Search.BoundLemmas.{front_rises, last_placed, back_rises, next_low, left_place}
use Rattle.ac_prune.proofs.Search.SoughtLemmas.{IsSearch}

-- ---- What a walk has met

met_later : (m : Search) (x c d : List ℕ) → lex_lt c d ≡ true → (w : List ℕ) → is_met m x c w ≡ true → is_met m x d w ≡ true
met_later m x c d h w e = grind (arith, lex_trans w c d)

-- a walk that goes up has met at least as much
met_up : (m : Search) (x c d : List ℕ) → lex_lt c d ≡ true → met m x c ≤ met m x d
unfolding met
met_up m x c d h = count_less (is_met m x c) (is_met m x d) (all_shorter m.count m.width) (each_all _ (all_shorter m.count m.width) (met_later m x c d h))

-- and one more where it goes down into an open list
met_more : (m : Search) (x c : List ℕ) (b : ℕ) → length c < m.width → Each (λ p. p < m.count) c → m.is_open c ≡ true → lex_lt c (take (length c) x) ≡ false → met m x c + 1 ≤ met m x (c ++ b ∷ [])
unfolding met
met_more m x c b short low opens reached = count_more (is_met m x c) (is_met m x (c ++ b ∷ [])) (all_shorter m.count m.width) c
    (each_all _ (all_shorter m.count m.width) (met_later m x c (c ++ b ∷ []) (lex_longer c b []))) (among_all_shorter m.count m.width c short low)
    (rw (opens, reached) (lex_irrefl c)) (rw (opens, reached) (lex_longer c b []))

-- one more place in use
behind_push : (xs : List ℕ) (cs : List (List ℕ)) (a d : ℕ) → length xs ≡ d → d < length cs → behind (xs ++ a ∷ []) cs ≡ behind xs cs + (length (get_or cs d []) - suc a)
behind_push xs [] a d e h = absurd (omega arith)
behind_push [] (c ∷ cs) a zero e h = omega arith
behind_push [] (c ∷ cs) a (suc d) e h = absurd (omega arith)
behind_push (b ∷ xs) (c ∷ cs) a zero e h = absurd (omega arith)
behind_push (b ∷ xs) (c ∷ cs) a (suc d) e h = let more = behind_push xs cs a d (omega arith) (omega arith) in omega arith

behind_more : (m : Search) → IsSearch m → (xs : List ℕ) (a d : ℕ) → length xs ≡ d → d < m.width → behind (xs ++ a ∷ []) m.choices ≡ behind xs m.choices + (length (choices_at m d) - suc a)
unfolding choices_at
behind_more m laws xs a d e h = behind_push xs m.choices a d e (omega (arith, laws.slots))

-- ---- Moves

-- it begins
pub sound_new : {m : Search} (laws : IsSearch m) (x : List ℕ) (j : ℕ) → length x ≤ m.width → 0 < m.width → Enters m x [] 0 j true → IsSound m x [] [] 0 j true 0
sound_new {m} laws x j short some enters = record {
  long = refl;
  used_long = refl;
  least_len = short;
  within = some;
  begun = λ _. refl;
  placed = λ i b. absurd (omega arith);
  place = enters.place;
  opens = λ b. absurd (omega arith);
  reached = enters.reached;
  seeks = enters.seeks;
  passed = enters.passed;
  paid = elim (cases_lt 0 (length (choices_at m 0))) [
    | inl l ↦ let one = mul-le-mul_left m.count (met_more m x [] (next_at m 0 j) some tt (laws.begins l) refl) in let few = laws.few 0 some in omega arith
    | inr none ↦ omega arith
  ];
}

pub left_new : (m : Search) (x : List ℕ) (j : ℕ) → 0 < m.width → Enters m x [] 0 j true → left_from m x (next_front m [] 0 j) ≡ sought m x
unfolding left_from
left_new m x j some enters = sym (left_place m x [] 0 j true refl some enters) ∙ filter_all (from []) (sought m x) (each_all (λ t. from [] t ≡ true) (sought m x) (λ t. rw lex_nil refl))

-- it goes on in its slot
pub sound_on : {m : Search} (laws : IsSearch m) {x q used : List ℕ} {d j : ℕ} {seeking : Bool} {probes : ℕ} → IsSound m x q used d j seeking probes
    → (k n : ℕ) → j < k → k ≤ length (choices_at m d) → probes ≤ n → n ≤ probes + 1 → IsSound m x q used d k false n
sound_on {m} laws {x} {q} {used} {d} {j} s k n l up kept more =
    let c = next_front m q d j in
    let c' = next_front m q d k in
    let rise = front_rises m laws q d j k s.within l up in
    let cut = lex_le_trans (take (suc d) x) c c' (s.reached (omega arith)) rise in
    let long : length c' ≡ suc d = length-append q (next_at m d k ∷ []) ∙ omega (arith, s.long) in
    let past = lex_uncut x c' (rw long cut) in
    record {
      long = s.long;
      used_long = s.used_long;
      least_len = s.least_len;
      within = s.within;
      begun = λ e. s.begun (omega (arith, kept, e));
      placed = s.placed;
      place = up;
      opens = s.opens;
      reached = λ _. lex_asym (take (suc d) x) c' cut;
      seeks = λ e. absurd (false≢true e);
      passed = λ _. past;
      paid = let cost = mul-le-mul_left m.count (met_up m x c c' rise) in let few = laws.few d s.within in let was = s.paid in omega arith;
    }

-- it goes down
pub sound_place : {m : Search} (laws : IsSearch m) {x q used : List ℕ} {d j : ℕ} {seeking : Bool} {probes : ℕ} → IsSound m x q used d j seeking probes
    → (k n : ℕ) (seeking' : Bool) → suc d < m.width → j < length (choices_at m d) → m.is_open (next_front m q d j) ≡ true → Enters m x (next_front m q d j) (suc d) k seeking' → n ≤ probes + 1 → 0 < n
    → IsSound m x (next_front m q d j) (used ++ j ∷ []) (suc d) k seeking' n
sound_place {m} laws {x} {q} {used} {d} {j} s k n seeking' short l opens enters more some =
    let c = next_front m q d j in
    let long : length c ≡ suc d = length-append q (next_at m d j ∷ []) ∙ omega (arith, s.long) in
    record {
      long = long;
      used_long = length-append used (j ∷ []) ∙ omega (arith, s.used_long);
      least_len = s.least_len;
      within = short;
      begun = λ e. absurd (omega (arith, some, e));
      placed = λ i b. elim (cases_lt i d) [
        | inl w ↦ rw (get_or-append used (j ∷ []) 0 i (omega (arith, s.used_long)), get_or-append q (next_at m d j ∷ []) 0 i (omega (arith, s.long))) (s.placed i w)
        | inr g ↦ let here : i ≡ d = omega arith in rw (here, get_or_push used j 0 d s.used_long, get_or_push q (next_at m d j) 0 d s.long) (l, refl)
      ];
      place = enters.place;
      opens = λ _. opens;
      reached = enters.reached;
      seeks = enters.seeks;
      passed = enters.passed;
      paid =
          let cost = mul-le-mul_left m.count (met_more m x c (next_at m (suc d) k) (omega (arith, long)) (next_low laws s l) opens (rw long (s.reached l))) in
          let spent = behind_more m laws used j d s.used_long s.within in
          let few = laws.few (suc d) short in
          let was = s.paid in omega arith;
    }

-- it goes back up
pub sound_back : {m : Search} (laws : IsSearch m) {x : List ℕ} {d j : ℕ} {seeking : Bool} {probes : ℕ} (q used : List ℕ) (p a : ℕ) → IsSound m x (q ++ p ∷ []) (used ++ a ∷ []) (suc d) j seeking probes
    → IsSound m x q used d (a + 1) false probes
sound_back {m} laws {x} {d} {j} {seeking} q used p a s =
    let long : length q ≡ d = omega (arith, s.long, length-append q (p ∷ [])) in
    let used_long : length used ≡ d = omega (arith, s.used_long, length-append used (a ∷ [])) in
    let within : d < m.width = omega (arith, s.within) in
    let on = last_placed laws q used p a s in
    let c = next_front m (q ++ p ∷ []) (suc d) j in
    let c' = next_front m q d (a + 1) in
    let up : lex_lt c c' ≡ true = back_rises laws q used p a s in
    let over : lex_lt (q ++ p ∷ []) c' ≡ true = lex_trans (q ++ p ∷ []) c c' (lex_longer (q ++ p ∷ []) (next_at m (suc d) j) []) up in
    let size : length c' ≡ suc d = length-append q (next_at m d (a + 1) ∷ []) ∙ omega (arith, long) in
    let past : lex_lt x c' ≡ true = elim (cases_Bool seeking) [
      | inl b ↦ lex_uncut x c' (rw size (subst (λ (u : List ℕ). lex_lt u c' ≡ true) (s.seeks b) over))
      | inr b ↦ lex_trans x c c' (s.passed b) up
    ] in
    record {
      long = long;
      used_long = used_long;
      least_len = s.least_len;
      within = within;
      begun = λ b. let none = s.begun b in absurd (omega arith);
      placed = λ i b. rw (get_or-append used (a ∷ []) 0 i (omega (arith, used_long)), get_or-append q (p ∷ []) 0 i (omega (arith, long))) at (s.placed i (omega arith));
      place = omega (arith, on.0);
      opens = λ _. laws.front q (p ∷ []) (s.opens (omega arith));
      reached = λ _. lex_asym (take (suc d) x) c' (lex_after_cut x c' (suc d) past);
      seeks = λ b. absurd (false≢true b);
      passed = λ _. past;
      paid =
          let cost = mul-le-mul_left m.count (met_up m x c c' up) in
          let spent = behind_more m laws used a d used_long within in
          let was = s.paid in omega arith;
    }
