-- What is left of the wanted lists from one front on, and from a later one.
use Rattle.std.proofs.Common.{◌≡◌, ℕ, Bool, ◌+◌, ◌<◌, ◌≤◌, suc, true, false, List, [], ◌∷◌, ◌++◌, inl, inr, length, refl, sym, ap, ◌∙◌, subst, arith, take_all, append_assoc, append-nil, length-append}
use Rattle.std.specs.List.{filter, slice_index, AllByRecursion as Each}
use Rattle.std.proofs.lemmas.Bool.{cases_Bool, cases_lt, cases_eq, false_from_ne_true, false≢true}
use Rattle.std.proofs.lemmas.Bool.Decides.{nat_tests}
use Rattle.std.proofs.lemmas.List.{get_or_past, get_or_push}
use Rattle.std.proofs.lemmas.List.Elements.{All-from_recursion, recursion_from_All, All-from_get_or}
use Rattle.ac_rules.specs.Lists.{BeginsWith, IsListBelow, IsRising, PassesOver, lex_lt}
use Rattle.ac_prune.specs.Search.{Search, IsDead, AllDead, sought, choices_at, next_at}
use Rattle.ac_search.specs.Search.{from, left_from, next_front, Enters, IsSound}
use Rattle.ac_rules.proofs.Elements.{Among, each_weaker, each_append, each_among, filter_agree, filter_none}
use Rattle.ac_rules.proofs.Lists.OrderLemmas.{lex_irrefl, lex_asym, lex_trans}
use Rattle.ac_prune.proofs.Search.SoughtLemmas.{IsSearch, IsSought, each_sought, rising_sought, among_sought, low_at, choice_in, place_of}
use Rattle.ac_search.proofs.Search.FrontOrder.{lex_append, lex_le_trans, lex_one, lex_longer, lex_lt_le, goes_on}

-- ---- Between two fronts

split_from : (c d : List ℕ) (P : List ℕ → Type 0) → lex_lt c d ≡ true → (all : List (List ℕ)) → IsRising all → Each (λ t. lex_lt t c ≡ false → lex_lt t d ≡ true → P t) all
    → (gone : List (List ℕ)) × (filter (from c) all ≡ gone ++ filter (from d) all) × Each P gone
split_from c d P up [] rising each = ([], refl, tt)
split_from c d P up (x ∷ all) rising each = elim (cases_Bool (lex_lt x c)) [
  | inl below ↦ let g = split_from c d P up all rising.1 each.1 in (g.0, rw (below, lex_trans x c d below up) g.1, g.2)
  | inr above ↦ elim (cases_Bool (lex_lt x d)) [
    | inl between ↦ let g = split_from c d P up all rising.1 each.1 in (x ∷ g.0, rw (above, between) (ap (λ (ts : List (List ℕ)). x ∷ ts) g.1), (each.0 above between, g.2))
    | inr past ↦ ([], rw (above, past) (ap (λ (ts : List (List ℕ)). x ∷ ts) (filter_agree (from c) (from d) all (each_weaker (λ t. lex_lt x t ≡ true) (λ t. from c t ≡ from d t) all (λ t later. same t above past later) rising.0))), tt)
  ]
]
  where
    same : (t : List ℕ) → lex_lt x c ≡ false → lex_lt x d ≡ false → lex_lt x t ≡ true → from c t ≡ from d t
    same t above past later = grind (arith, lex_asym c t (lex_le_trans c x t above later), lex_asym d t (lex_le_trans d x t past later))

-- what is left out between are the first lists, and they are wanted and lie between
pub all_between : (m : Search) (x c d : List ℕ) (P : List ℕ → Type 0) → lex_lt c d ≡ true → ((t : List ℕ) → IsSought m x t → lex_lt t c ≡ false → lex_lt t d ≡ true → P t)
    → (gone : List (List ℕ)) × (left_from m x c ≡ gone ++ left_from m x d) × Each P gone
unfolding left_from
all_between m x c d P up all = split_from c d P up (sought m x) (rising_sought m x) (each_weaker (IsSought m x) (λ t. lex_lt t c ≡ false → lex_lt t d ≡ true → P t) (sought m x) all (each_sought m x))

-- nothing is lost where no wanted list lies between
pub none_between : (m : Search) (x c d : List ℕ) → lex_lt c d ≡ true → ((t : List ℕ) → IsSought m x t → lex_lt t c ≡ false → lex_lt t d ≡ true → ⊥) → left_from m x c ≡ left_from m x d
none_between m x c d up none = nothing (all_between m x c d (λ t. ⊥) up none)
  where
    nothing : (gone : List (List ℕ)) × (left_from m x c ≡ gone ++ left_from m x d) × Each (λ t. ⊥) gone → left_from m x c ≡ left_from m x d
    nothing ([], is, each) = is
    nothing (t ∷ gone, is, each) = absurd each.0

-- the list at a bound is the head, and those after it are the tail
head_from : (all : List (List ℕ)) (y : List ℕ) → IsRising all → Among all y → filter (from y) all ≡ y ∷ filter (λ t. lex_lt y t) all
head_from [] y h m = absurd m
head_from (x ∷ all) y h m = elim m [
  | inl e ↦ subst (λ (z : List ℕ). filter (from z) (x ∷ all) ≡ z ∷ filter (λ t. lex_lt z t) (x ∷ all)) e
      (rw (lex_irrefl x) (ap (λ (l : List (List ℕ)). x ∷ l) (filter_agree (from x) (λ t. lex_lt x t) all (each_weaker (λ t. lex_lt x t ≡ true) (λ t. from x t ≡ lex_lt x t) all (λ t b. rw (b, lex_asym x t b)) h.0))))
  | inr m ↦ let b = each_among (λ t. lex_lt x t ≡ true) all y h.0 m in rw (b, lex_asym x y b, head_from all y h.1 m)
]

-- where only the first front itself is wanted, it is the head
pub one_between : (m : Search) (x c d : List ℕ) → lex_lt c d ≡ true → IsSought m x c → ((t : List ℕ) → IsSought m x t → lex_lt t c ≡ false → lex_lt t d ≡ true → t ≡ c) → left_from m x c ≡ c ∷ left_from m x d
unfolding left_from
one_between m x c d up here only = head_from (sought m x) c (rising_sought m x) (among_sought m x c here.long here.low here.wanted here.after)
    ∙ ap (λ (ts : List (List ℕ)). c ∷ ts) (filter_agree (λ t. lex_lt c t) (from d) (sought m x) (each_weaker (IsSought m x) (λ t. lex_lt c t ≡ from d t) (sought m x) same (each_sought m x)))
  where
    same : (t : List ℕ) → IsSought m x t → lex_lt c t ≡ from d t
    same t h = grind (arith, only t h, lex_irrefl c, lex_asym c t, lex_lt_le c d t)

-- ---- Choices of a slot

pub next_rises : (m : Search) → IsSearch m → (d i j : ℕ) → d < m.width → i < j → j ≤ length (choices_at m d) → next_at m d i < next_at m d j
next_rises m laws d i j h l k = elim (cases_lt j (length (choices_at m d))) [
  | inl g ↦ laws.rising d h i j m.count l g
  | inr g ↦ rw (get_or_past (choices_at m d) j m.count g) (low_at m laws d i h (omega arith))
]

-- a later choice makes a later front
pub front_rises : (m : Search) → IsSearch m → (q : List ℕ) (d i j : ℕ) → d < m.width → i < j → j ≤ length (choices_at m d) → lex_lt (q ++ next_at m d i ∷ []) (q ++ next_at m d j ∷ []) ≡ true
front_rises m laws q d i j h l k = let up = next_rises m laws d i j h l k in rw (lex_append, lex_one) (grind (arith, nat_tests))

-- t goes on from q by a choice from place j on, before place k
pub record GoesBy (m : Search) (q t : List ℕ) (d j k : ℕ) : Type 0 where
  pub place : ℕ
  pub more : List ℕ
  pub from : j ≤ place
  pub before : place < k
  pub is : t ≡ q ++ next_at m d place ∷ more

pub goes_by : (m : Search) → IsSearch m → (x q t : List ℕ) (d j k : ℕ) → length q ≡ d → d < m.width → j < k → k ≤ length (choices_at m d) → IsSought m x t
    → lex_lt t (q ++ next_at m d j ∷ []) ≡ false → lex_lt t (q ++ next_at m d k ∷ []) ≡ true → GoesBy m q t d j k
goes_by m laws x q t d j k long h l up sought above below =
    let g = goes_on q t (next_at m d j ∷ []) (next_at m d k ∷ []) above below in
    by g.more g.is g.from g.before
  where
    falls : (i k : ℕ) → i ≤ k → k < length (choices_at m d) → next_at m d i ≤ next_at m d k
    falls i k g w = elim (cases_eq i k) [ inl e ↦ rw e (omega arith) | inr ne ↦ let up = next_rises m laws d i k h (omega arith) (omega arith) in omega arith ]

    by : (u : List ℕ) → t ≡ q ++ u → lex_lt u (next_at m d j ∷ []) ≡ false → lex_lt u (next_at m d k ∷ []) ≡ true → GoesBy m q t d j k
    by [] e f b = absurd (omega (arith, sought.long, ap length e, length-append q []))
    by (r ∷ s) e f b =
        let choice = choice_in m laws x t q s r sought e in
        let p = place_of (choices_at m d) r (subst (λ (i : ℕ). Among (choices_at m i) r) long choice.among) in
        let is = p.2 m.count in
        let low : next_at m d j ≤ r = let l = rw lex_one at f in grind (arith, nat_tests) in
        let high : r < next_at m d k = let l = rw lex_one at b in grind (arith, nat_tests) in
        record {
          place = p.0;
          more = s;
          from = elim (cases_lt p.0 j) [ inl w ↦ absurd (let up = next_rises m laws d p.0 j h w (omega arith) in omega arith) | inr g ↦ g ];
          before = elim (cases_lt p.0 k) [ inl w ↦ w | inr g ↦ absurd (let up = falls k p.0 g p.1 in omega arith) ];
          is = rw is e;
        }

-- ---- What is left

module _ {m : Search} (laws : IsSearch m) {x q used : List ℕ} {d j : ℕ} {seeking : Bool} {probes : ℕ} (s : IsSound m x q used d j seeking probes) where
  -- nothing goes on from the path by a number at which it is dead
  pub left_dead : (k : ℕ) → j < k → k ≤ length (choices_at m d) → AllDead m q d j k → left_from m x (next_front m q d j) ≡ left_from m x (next_front m q d k)
  left_dead k l up dead = none_between m x _ _ (front_rises m laws q d j k s.within l up) (λ t sought above below.
      let g = goes_by m laws x q t d j k s.long s.within l up sought above below in
      let same : t ≡ next_front m q d g.place ++ g.more = g.is ∙ sym (append_assoc q (next_at m d g.place ∷ []) g.more) in
      let list : IsListBelow m.count m.width t = record { long = sought.long; below = All-from_recursion (λ r. r < m.count) t sought.low } in
      false≢true (sym (dead g.place g.from g.before g.more (subst (IsListBelow m.count m.width) same list)) ∙ subst (λ (v : List ℕ). m.is_wanted v ≡ true) same sought.wanted))

  pub left_here : j < length (choices_at m d) → IsDead m (next_front m q d j) → left_from m x (next_front m q d j) ≡ left_from m x (next_front m q d (j + 1))
  left_here l dead = left_dead (j + 1) (omega arith) (omega arith) (λ i a b. let here : i ≡ j = omega arith in rw here dead)

  -- at the last depth only the whole path itself is wanted up to the next choice
  itself : suc d ≡ m.width → j < length (choices_at m d) → (t : List ℕ) → IsSought m x t → lex_lt t (next_front m q d j) ≡ false → lex_lt t (next_front m q d (j + 1)) ≡ true → t ≡ next_front m q d j
  itself last l t sought above below =
      let g = goes_by m laws x q t d j (j + 1) s.long s.within (omega arith) (omega arith) sought above below in
      let here : g.place ≡ j = omega (arith, g.from, g.before) in
      ends g.more (rw here at g.is)
    where
      ends : (u : List ℕ) → t ≡ q ++ next_at m d j ∷ u → t ≡ next_front m q d j
      ends [] e = e
      ends (r ∷ u) e = absurd (omega (arith, sought.long, s.long, ap length e, length-append q (next_at m d j ∷ r ∷ u)))

  pub left_lacking : suc d ≡ m.width → j < length (choices_at m d) → m.is_wanted (next_front m q d j) ≡ false → left_from m x (next_front m q d j) ≡ left_from m x (next_front m q d (j + 1))
  left_lacking last l lacks = none_between m x _ _ (front_rises m laws q d j (j + 1) s.within (omega arith) (omega arith)) (λ t sought above below.
      false≢true (sym lacks ∙ subst (λ (v : List ℕ). m.is_wanted v ≡ true) (itself last l t sought above below) sought.wanted))

  -- the numbers of the path are below the bound
  pub path_low : Each (λ p. p < m.count) q
  path_low = recursion_from_All (λ p. p < m.count) q (All-from_get_or (λ p. p < m.count) q 0
      (λ i b. let on = s.placed i (omega (arith, s.long)) in subst (λ (r : ℕ). r < m.count) on.1 (low_at m laws i (slice_index used i) (omega (arith, s.within, s.long)) on.0)))

  pub next_low : j < length (choices_at m d) → Each (λ p. p < m.count) (next_front m q d j)
  next_low l = each_append (λ r. r < m.count) q (next_at m d j ∷ []) path_low (low_at m laws d j s.within l, tt)

  -- a whole path that is wanted is the first of what is left
  pub left_given : suc d ≡ m.width → j < length (choices_at m d) → m.is_wanted (next_front m q d j) ≡ true
      → left_from m x (next_front m q d j) ≡ next_front m q d j ∷ left_from m x (next_front m q d (j + 1))
  left_given last l wanted = one_between m x _ _ (front_rises m laws q d j (j + 1) s.within (omega arith) (omega arith))
      (record { after = rw (take_all (suc d) x (omega (arith, s.least_len))) at s.reached l; wanted = wanted; long = length-append q (next_at m d j ∷ []) ∙ omega (arith, s.long); low = next_low l })
      (itself last l)

-- at the end of the first slot nothing is left
pub left_ended : (m : Search) (x : List ℕ) (j : ℕ) → 0 < m.width → length (choices_at m 0) ≤ j → left_from m x (next_front m [] 0 j) ≡ []
unfolding left_from
left_ended m x j some end = rw (get_or_past (choices_at m 0) j m.count end) (filter_none (from (m.count ∷ [])) (sought m x)
    (each_weaker (IsSought m x) (λ t. from (m.count ∷ []) t ≡ false) (sought m x) below (each_sought m x)))
  where
    below : (t : List ℕ) → IsSought m x t → from (m.count ∷ []) t ≡ false
    below [] h = let long = h.long in absurd (omega arith)
    below (r ∷ s) h = let low : r < m.count = h.low.0 in rw lex_one (grind (arith, nat_tests))

-- nothing is lost where a walk goes down
pub left_place : (m : Search) (x q : List ℕ) (d j : ℕ) (seeking : Bool) → length q ≡ d → d < m.width → Enters m x q d j seeking → left_from m x q ≡ left_from m x (next_front m q d j)
left_place m x q d j seeking long within enters =
    none_between m x q (next_front m q d j) (lex_longer q (next_at m d j) []) (λ t h above below.
    let g = goes_on q t [] (next_at m d j ∷ []) (rw append-nil above) below in
    behind t h (each_among _ (sought m x) t enters.least (among_sought m x t h.long h.low h.wanted h.after)) g.more g.is g.before)
  where
    behind : (t : List ℕ) → IsSought m x t → ((r : ℕ) (s : List ℕ) → t ≡ q ++ r ∷ s → next_at m d j ≤ r) → (u : List ℕ) → t ≡ q ++ u → lex_lt u (next_at m d j ∷ []) ≡ true → ⊥
    behind t h least [] e b = omega (arith, h.long, ap length e, length-append q [], long, within)
    behind t h least (r ∷ s) e b = let high = least r s e in let low = rw lex_one at b in false≢true (grind (arith, nat_tests))

-- where a walk goes back up
module _ {m : Search} (laws : IsSearch m) {x : List ℕ} {d j : ℕ} {seeking : Bool} {probes : ℕ} (q used : List ℕ) (p a : ℕ) (s : IsSound m x (q ++ p ∷ []) (used ++ a ∷ []) (suc d) j seeking probes) where
  front_long : length q ≡ d
  front_long = omega (arith, s.long, length-append q (p ∷ []))

  -- the last number is the choice at its place
  pub last_placed : (a < length (choices_at m d)) × (next_at m d a ≡ p)
  last_placed =
      let used_long : length used ≡ d = omega (arith, s.used_long, length-append used (a ∷ [])) in
      rw (get_or_push used a 0 d used_long, get_or_push q p 0 d front_long) at (s.placed d (omega arith))

  pub back_rises : lex_lt (next_front m (q ++ p ∷ []) (suc d) j) (next_front m q d (a + 1)) ≡ true
  back_rises =
      let on = last_placed in
      let up = next_rises m laws d a (a + 1) (omega (arith, s.within)) (omega arith) (omega (arith, on.0)) in
      rw (append_assoc, lex_append, lex_one) (let same = on.1 in grind (arith, nat_tests))

  -- what lies between goes on from the path
  back_between : (t : List ℕ) → IsSought m x t → lex_lt t (next_front m (q ++ p ∷ []) (suc d) j) ≡ false → lex_lt t (next_front m q d (a + 1)) ≡ true → BeginsWith t (q ++ p ∷ [])
  back_between t sought above below =
      let on = last_placed in
      let low : lex_lt t (q ++ next_at m d a ∷ []) ≡ false = rw on.1 (false_from_ne_true _ (λ b. false≢true (sym above ∙ lex_trans t (q ++ p ∷ []) _ b (lex_longer (q ++ p ∷ []) _ [])))) in
      let g = goes_by m laws x q t d a (a + 1) front_long (omega (arith, s.within)) (omega arith) (omega (arith, on.0)) sought low below in
      let here : g.place ≡ a = omega (arith, g.from, g.before) in
      (g.more, rw (here, on.1) at g.is ∙ sym (append_assoc q (p ∷ []) g.more))

  pub back_passes : PassesOver (q ++ p ∷ []) (left_from m x (next_front m (q ++ p ∷ []) (suc d) j)) (left_from m x (next_front m q d (a + 1)))
  back_passes = all_between m x _ _ (λ t. BeginsWith t (q ++ p ∷ [])) back_rises back_between

  -- nothing is lost where its choices are at their end
  pub left_back : length (choices_at m (suc d)) ≤ j → left_from m x (next_front m (q ++ p ∷ []) (suc d) j) ≡ left_from m x (next_front m q d (a + 1))
  left_back end = none_between m x _ _ back_rises (λ t sought above below. let g = back_between t sought above below in behind t sought above g.0 g.1)
    where
      behind : (t : List ℕ) → IsSought m x t → lex_lt t (next_front m (q ++ p ∷ []) (suc d) j) ≡ false → (u : List ℕ) → t ≡ (q ++ p ∷ []) ++ u → ⊥
      behind t h above [] e = omega (arith, h.long, ap length e, length-append (q ++ p ∷ []) [], s.long, s.within)
      behind t h above (r ∷ u) e =
          let low = (choice_in m laws x t (q ++ p ∷ []) u r h e).low in
          let past : lex_lt (r ∷ u) (m.count ∷ []) ≡ false = rw (e, lex_append, get_or_past (choices_at m (suc d)) j m.count end) at above in
          let one = rw lex_one at past in
          false≢true (grind (arith, nat_tests))
