-- What a search looks for: in order, each once; and where the choices of a slot lead.
use Rattle.std.proofs.Common.{◌≡◌, ℕ, ◌<◌, ◌≤◌, suc, true, false, List, [], ◌∷◌, ◌++◌, inl, inr, length, get_or, sym, ap, ◌∙◌, subst, arith, append_assoc, length-append}
use Rattle.std.specs.List.{AllPairs, AllByRecursion as Each}
use Rattle.std.proofs.lemmas.Bool.{not-true, not_from_false, false_from_ne_true, false≢true}
use Rattle.std.proofs.lemmas.List.Elements.{recursion_from_All}
use Rattle.ac_rules.specs.Lists.{IsRising, lex_lt}
use Rattle.ac_prune.specs.Search.{Search, sought, IsDead, choices_at, next_at}
use Rattle.ac_rules.proofs.Elements.{Among, each_filter, each_weaker, among_filter}
use Rattle.ac_rules.proofs.SlotLemmas.{each_at}
use Rattle.ac_rules.proofs.Lists.ListLemmas.{rising_all_lists, rising_filter, each_all_lists, among_all_lists}
use Rattle.std.proofs.lemmas.Bool.Decides.{nat_tests}
use Rattle.std.proofs.lemmas.Grind.{common_steps}
use Rattle.std.proofs.Common.{rules}

-- What makes a walk find all that is wanted. The choices of a slot rise, and have each number that leads to an open list.
-- A front of an open list is open, and so is a wanted list.
pub record IsSearch (m : Search) : Type 0 where
  pub slots : length m.choices ≡ m.width
  pub rising : (d : ℕ) → d < m.width → AllPairs (λ x y. x < y) (choices_at m d)
  pub low : (d : ℕ) → d < m.width → Each (λ p. p < m.count) (choices_at m d)
  pub few : (d : ℕ) → d < m.width → length (choices_at m d) ≤ m.count
  pub among : (q : List ℕ) (r : ℕ) → length q < m.width → r < m.count → m.is_open (q ++ r ∷ []) ≡ true → Among (choices_at m (length q)) r
  pub front : (q w : List ℕ) → m.is_open (q ++ w) ≡ true → m.is_open q ≡ true
  pub wanted : (t : List ℕ) → m.is_wanted t ≡ true → m.is_open t ≡ true
  -- where the empty list isn't open, there is nothing to try
  pub begins : 0 < length (choices_at m 0) → m.is_open [] ≡ true

pub record IsSought (m : Search) (x t : List ℕ) : Type 0 where
  pub after : lex_lt t x ≡ false
  pub wanted : m.is_wanted t ≡ true
  pub long : length t ≡ m.width
  pub low : Each (λ p. p < m.count) t

pub each_sought : (m : Search) (x : List ℕ) → Each (IsSought m x) (sought m x)
each_sought m x = search (rules, each_weaker, not-true, recursion_from_All, each_filter, each_all_lists)

pub rising_sought : (m : Search) (x : List ℕ) → IsRising (sought m x)
rising_sought m x = search (rules, rising_filter, rising_all_lists)

pub among_sought : (m : Search) (x t : List ℕ) → length t ≡ m.width → Each (λ p. p < m.count) t → m.is_wanted t ≡ true → lex_lt t x ≡ false → Among (sought m x) t
among_sought m x t l low h k = grind (arith, common_steps, among_filter, among_all_lists, not_from_false)

-- a number behind q on the way to an open list
pub record IsChoice (m : Search) (q : List ℕ) (r : ℕ) : Type 0 where
  pub among : Among (choices_at m (length q)) r
  pub low : r < m.count
  pub opens : m.is_open (q ++ r ∷ []) ≡ true

-- what a sought list has after q is a choice there
pub choice_in : (m : Search) → IsSearch m → (x t q s : List ℕ) (r : ℕ) → IsSought m x t → t ≡ q ++ r ∷ s → IsChoice m q r
choice_in m laws x t q s r h e =
    let short : length q < m.width = omega (arith, h.long, ap length e, length-append q (r ∷ s)) in
    let whole : m.is_open ((q ++ r ∷ []) ++ s) ≡ true = subst (λ (u : List ℕ). m.is_open u ≡ true) (e ∙ sym (append_assoc q (r ∷ []) s)) (laws.wanted t h.wanted) in
    let opens : m.is_open (q ++ r ∷ []) ≡ true = laws.front (q ++ r ∷ []) s whole in
    let low : r < m.count = here q (subst (Each (λ p. p < m.count)) e h.low) in
    record { among = laws.among q r short low opens; low = low; opens = opens }
  where
    here : (u : List ℕ) → Each (λ p. p < m.count) (u ++ r ∷ s) → r < m.count
    here [] f = f.0
    here (a ∷ u) f = here u f.1

pub low_at : (m : Search) → IsSearch m → (d j : ℕ) → d < m.width → j < length (choices_at m d) → next_at m d j < m.count
low_at m laws d j h l = each_at (λ r. r < m.count) (choices_at m d) j m.count (laws.low d h) l

-- the place of what is among a list
pub place_of : (xs : List ℕ) (p : ℕ) → Among xs p → (k : ℕ) × (k < length xs) × ((d : ℕ) → get_or xs k d ≡ p)
place_of [] p m = absurd m
place_of (x ∷ xs) p m = elim m [ inl e ↦ (0, omega arith, λ d. e) | inr m ↦ let h = place_of xs p m in (suc h.0, omega (arith, h.1), h.2) ]

-- where each before place j is below v, what is there from v on is not below the one at j
pub least_from : (xs : List ℕ) (j v n r : ℕ) → AllPairs (λ x y. x < y) xs → ((i : ℕ) → i < j → i < length xs → get_or xs i n < v) → r < n → Among xs r → v ≤ r
    → get_or xs j n ≤ r
least_from xs j v n r up before small m h = grind (arith, nat_tests, place_of)

-- a list that isn't open is dead
pub closed_dead : (m : Search) → IsSearch m → (q : List ℕ) → m.is_open q ≡ false → IsDead m q
closed_dead m laws q closed v list = false_from_ne_true _ (λ h. false≢true (sym closed ∙ laws.front q v (laws.wanted (q ++ v) h)))
