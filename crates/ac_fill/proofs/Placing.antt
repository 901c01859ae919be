-- Placements: the first one, those behind it, and how many are enough.
use Rattle.std.proofs.Common.{◌≡◌, ◌∙◌, ◌<◌, ◌≤◌, ◌+◌, ◌-◌, ℕ, zero, suc, Bool, true, false, List, [], ◌∷◌, ◌++◌, length, Option, None, Some, refl, sym, ap, subst, arith, length-append}
use Rattle.std.specs.List.{filter, All, AllByRecursion as Each}
use Rattle.std.proofs.lemmas.List.Elements.{All-from_recursion, All-tail, filter-append}
use Rattle.ac_cloud.specs.World.{Provider}
use Rattle.ac_cloud.proofs.Amounts.{amounts_size}
use Rattle.ac_query.specs.Asked.{Asked, slots_of}
use Rattle.ac_report.specs.Outcomes.{one_less}
use Rattle.ac_rules.specs.Claims.{claimed}
use Rattle.ac_rules.specs.Judge.{is_candidate}
use Rattle.ac_rules.specs.Lists.{BeginsWith, PassesOver, all_lists, head_of}
use Rattle.ac_rules.specs.Pages.{candidates}
use Rattle.ac_rules.specs.Placed.{Placed, assigned}
use Rattle.ac_rules.specs.Together.{sum_on, sums}
use Rattle.ac_rules.proofs.Elements.{each_all, each_weaker, filter_all, filter_none, filter_twice}
use Rattle.ac_rules.proofs.EachSlot.ClaimLaws.{claims_narrow}
use Rattle.ac_rules.proofs.Lists.RestLemmas.{IsChosen, each_candidate}
use Rattle.ac_fill.specs.Ends.{AreAhead}
use Rattle.ac_fill.specs.Filled.{asks_units, units_left, placements, filled}
use Rattle.ac_fill.proofs.Ending.{front_leaves}
use Rattle.ac_fill.proofs.Units.{claim_takes}
use Rattle.std.proofs.lemmas.Grind.{common_steps}

abbrev Lists : Type 0
Lists = List (List ℕ)

-- ---- the definition, by cases

pub placed_none : (n : ℕ) (all : List Provider) (asked : Asked) → candidates all asked ≡ [] → placements n all asked ≡ []
unfolding placements
placed_none n all asked e = grind (arith, common_steps)

pub placed_over : (all : List Provider) (asked : Asked) → placements 0 all asked ≡ []
unfolding placements
placed_over all asked = refl

pub placed_first : (n : ℕ) (all : List Provider) (asked : Asked) (t : List ℕ) (ts : Lists) → candidates all asked ≡ t ∷ ts
    → placements (suc n) all asked ≡ t ∷ placements n (claimed all (assigned asked t)) asked
unfolding placements
placed_first n all asked t ts e = rw e refl

pub first_chosen : (all : List Provider) (asked : Asked) (t : List ℕ) (ts : Lists) → candidates all asked ≡ t ∷ ts → IsChosen all asked t
first_chosen all asked t ts e = (subst (Each (IsChosen all asked)) e (each_candidate all asked)).0

-- ---- how many are enough

module _ (asked : Asked) (asks : asks_units asked ≡ true) where
  pub first_takes : (all : List Provider) (t : List ℕ) (ts : Lists) → candidates all asked ≡ t ∷ ts → units_left (claimed all (assigned asked t)) < units_left all
  first_takes all t ts e = claim_takes all asked t asks (first_chosen all asked t ts e)

  -- from as many as there are units left on, more placements are none
  pub enough : (m k : ℕ) (all : List Provider) (ls : Lists) → candidates all asked ≡ ls → units_left all ≤ m → units_left all ≤ k → placements m all asked ≡ placements k all asked
  enough m k all [] e h j = placed_none m all asked e ∙ sym (placed_none k all asked e)
  enough zero k all (t ∷ ts) e h j = let less = first_takes all t ts e in absurd (omega (arith, less, h))
  enough (suc m) zero all (t ∷ ts) e h j = let less = first_takes all t ts e in absurd (omega (arith, less, j))
  enough (suc m) (suc k) all (t ∷ ts) e h j =
      let less = first_takes all t ts e in
      let now = claimed all (assigned asked t) in
      placed_first m all asked t ts e
      ∙ ap (λ l. t ∷ l) (enough m k now (candidates now asked) refl (omega (arith, less, h)) (omega (arith, less, j))) ∙ sym (placed_first k all asked t ts e)

  -- the first placement, and then those of the world after its claim
  pub filled_first : (limit : Option ℕ) (all : List Provider) (t : List ℕ) (ts : Lists) → (limit ≡ Some 0 → ⊥) → candidates all asked ≡ t ∷ ts
      → filled limit all asked ≡ t ∷ filled (one_less limit) (claimed all (assigned asked t)) asked
  unfolding filled
  filled_first None all t ts more e =
      let less = first_takes all t ts e in
      let now = claimed all (assigned asked t) in
      let n = units_left all - 1 in
      let is : units_left all ≡ suc n = omega (arith, less) in
      ap (λ (k : ℕ). placements k all asked) is
      ∙ placed_first n all asked t ts e ∙ ap (λ l. t ∷ l) (enough n (units_left now) now (candidates now asked) refl (omega (arith, less)) (omega arith))
  filled_first (Some zero) all t ts more e = absurd (more refl)
  filled_first (Some (suc n)) all t ts more e =
      let less : n ≡ suc n - 1 = omega arith in
      placed_first n all asked t ts e ∙ ap (λ (k : ℕ). t ∷ placements k (claimed all (assigned asked t)) asked) less

pub filled_none : (limit : Option ℕ) (all : List Provider) (asked : Asked) → candidates all asked ≡ [] → filled limit all asked ≡ []
unfolding filled
filled_none None all asked e = placed_none (units_left all) all asked e
filled_none (Some n) all asked e = placed_none n all asked e

pub filled_over : (limit : Option ℕ) (all : List Provider) (asked : Asked) → limit ≡ Some 0 → filled limit all asked ≡ []
unfolding filled
filled_over limit all asked over = rw over (placed_over all asked)

-- ---- candidates among the lists of a source

claimed_size : (all : List Provider) (xs : List Placed) → length (claimed all xs) ≡ length all
unfolding claimed
claimed_size all xs = amounts_size (λ ix class had. had.used + sum_on xs ix class) all

-- where all candidates are among some lists, they are so after a claim
pub ahead_after : (all : List Provider) (asked : Asked) (ls : Lists) (xs : List Placed) → AreAhead all asked ls → AreAhead (claimed all xs) asked ls
unfolding candidates AreAhead
ahead_after all asked ls xs e =
    let old : List ℕ → Bool = λ t. is_candidate all asked t in
    let new : List ℕ → Bool = λ t. is_candidate (claimed all xs) asked t in
    let narrow : (ts : Lists) → Each (λ t. new t ≡ true → old t ≡ true) ts = λ ts. each_all (λ t. new t ≡ true → old t ≡ true) ts (λ t h. claims_narrow all xs asked t h) in
    let k = length (slots_of asked) in
    ap (λ (n : ℕ). filter new (all_lists n k)) (claimed_size all xs)
    ∙ sym (filter_twice new old (all_lists (length all) k) (narrow (all_lists (length all) k))) ∙ ap (filter new) e ∙ filter_twice new old ls (narrow ls)

-- a list that is a candidate is the first, and one that is none may be left out
pub ahead_first : (all : List Provider) (asked : Asked) (t : List ℕ) (ls : Lists) → is_candidate all asked t ≡ true → AreAhead all asked (t ∷ ls) → candidates all asked ≡ t ∷ filter (λ u. is_candidate all asked u) ls
unfolding AreAhead
ahead_first all asked t ls is e = let first : filter (λ (u : List ℕ). is_candidate all asked u) (t ∷ ls) ≡ t ∷ filter (λ u. is_candidate all asked u) ls = rw is refl in e ∙ first

pub ahead_past : (all : List Provider) (asked : Asked) (t : List ℕ) (ls : Lists) → is_candidate all asked t ≡ false → AreAhead all asked (t ∷ ls) → AreAhead all asked ls
unfolding AreAhead
ahead_past all asked t ls not_one e = let later : filter (λ (u : List ℕ). is_candidate all asked u) (t ∷ ls) ≡ filter (λ u. is_candidate all asked u) ls = rw not_one refl in e ∙ later

-- so may those that begin with a front that doesn't keep Sums
pub ahead_front : (all : List Provider) (asked : Asked) (front : List ℕ) (old new : Lists) → sums all (assigned asked front) ≡ false → PassesOver front old new → AreAhead all asked old → AreAhead all asked new
unfolding AreAhead
ahead_front all asked front old new full passes e =
    let test : List ℕ → Bool = λ t. is_candidate all asked t in
    let none : filter test passes.0 ≡ [] = filter_none test passes.0 (each_weaker (λ t. BeginsWith t front) (λ t. test t ≡ false) passes.0 (λ t b. rw b.1 (front_leaves all asked front b.0 full)) passes.2) in
    e ∙ ap (filter test) passes.1 ∙ filter-append test passes.0 new ∙ ap (λ (ts : Lists). ts ++ filter test new) none

behind : (P : List ℕ → Type 0) (gone new : Lists) → All P (gone ++ new) → All P new
behind P [] new h = h
behind P (t ∷ gone) new h = behind P gone new (All-tail P t (gone ++ new) h)

pub chosen_behind : (P : List ℕ → Type 0) (front : List ℕ) (old new : Lists) → PassesOver front old new → All P old → All P new
chosen_behind P front old new passes h = behind P passes.0 new (subst (All P) passes.1 h)

pub fewer_behind : (front : List ℕ) (old new : Lists) → PassesOver front old new → length new ≤ length old
fewer_behind front old new passes = omega (arith, ap length passes.1, length-append passes.0 new)

-- where no list is left, there is no candidate
pub ahead_none : (all : List Provider) (asked : Asked) (ls : Lists) → None ≡ head_of ls → AreAhead all asked ls → candidates all asked ≡ []
unfolding AreAhead
ahead_none all asked ls end e = grind (arith, common_steps)

-- the candidates themselves are ahead, and each is one
pub ahead_whole : (all : List Provider) (asked : Asked) (ls : Lists) → ls ≡ candidates all asked → AreAhead all asked ls
unfolding AreAhead
ahead_whole all asked ls whole =
    sym (ap (filter (λ (t : List ℕ). is_candidate all asked t)) whole
    ∙ filter_all (λ t. is_candidate all asked t) (candidates all asked) (each_weaker (IsChosen all asked) (λ t. is_candidate all asked t ≡ true) (candidates all asked) (λ t h. h.candidate) (each_candidate all asked)))

pub chosen_whole : (all : List Provider) (asked : Asked) (ls : Lists) → ls ≡ candidates all asked → All (IsChosen all asked) ls
chosen_whole all asked ls whole = All-from_recursion (IsChosen all asked) ls (subst (Each (IsChosen all asked)) (sym whole) (each_candidate all asked))
