-- One list placed so many times, one placement after another and all at once.
use Rattle.std.proofs.Common.{◌≡◌, ◌∙◌, ◌<◌, ◌≤◌, ◌+◌, ◌*◌, ◌-◌, ℕ, zero, suc, true, List, [], ◌∷◌, ◌++◌, length, min, nat_lt, replicate, Option, None, Some, refl, sym, ap, subst, arith, inl, inr, length-append}
use Rattle.std.specs.Prelude.{⊤}
use Rattle.std.proofs.lemmas.Bool.{cases_lt, lt-ltb, ltb-true}
use Rattle.std.proofs.lemmas.List.{length-replicate}
use Rattle.ac_cloud.specs.Amounts.{with_amounts}
use Rattle.ac_cloud.specs.Cloud.CloudWorld.{providers_of}
use Rattle.ac_cloud.specs.World.{Provider, UsedInventory}
use Rattle.ac_cloud.specs.declared.cloud.Cloud.{Cloud}
use Rattle.ac_cloud.proofs.Amounts.{amounts_again, amounts_kept, amounts_same, amounts_same_found, amounts_size}
use Rattle.ac_cloud.proofs.InOrder.{entries_rise}
use Rattle.ac_query.specs.Asked.{Asked, slots_of}
use Rattle.ac_report.specs.Outcomes.{one_less}
use Rattle.ac_rules.specs.Claims.{claimed}
use Rattle.ac_rules.specs.Judge.{is_candidate}
use Rattle.ac_rules.specs.Lists.{IsListBelow}
use Rattle.ac_rules.specs.Placed.{assigned}
use Rattle.ac_rules.specs.Together.{sum_on, sums}
use Rattle.ac_rules.proofs.EachSlot.ClaimLaws.{keeps}
use Rattle.ac_rules.proofs.Lists.RestLemmas.{IsChosen}
use Rattle.ac_fill.specs.Ends.{AreAhead, LeadsTo, Stand, as_wanted, fewer, placements_at, start_of}
use Rattle.ac_fill.specs.Filled.{after, asks_units, filled, units_left}
use Rattle.ac_fill.specs.Shown.{count_in, taken_in, with_more, with_taken, IsSame, IsTakenOf, TimesFit}
use Rattle.ac_fill.specs.declared.placements.Filled.{Filled}
use Rattle.ac_fill.specs.declared.takings.Takings.{Takings}
use Rattle.ac_fill.proofs.Placing.{ahead_after, ahead_first, filled_first}
use Rattle.ac_fill.proofs.Units.{claim_takes}

-- ---- the world

-- after so many placements of one list
abbrev pub again : ℕ → List Provider → Asked → List ℕ → List Provider
again n all asked t = after all asked (replicate n t)

-- as much more is used as all of them ask
again_amounts : (n : ℕ) (all : List Provider) (asked : Asked) (t : List ℕ)
    → again n all asked t ≡ with_amounts (λ ix class had. had.used + n * sum_on (assigned asked t) ix class) all
unfolding claimed
again_amounts zero all asked t =
    sym (amounts_same (λ ix class had. had.used + 0 * sum_on (assigned asked t) ix class) (λ ix class had. had.used) all (λ ix class had. omega arith)
    ∙ amounts_kept all)
again_amounts (suc n) all asked t =
    again_amounts n (claimed all (assigned asked t)) asked t
    ∙ amounts_again (λ ix class had. had.used + sum_on (assigned asked t) ix class) (λ ix class had. had.used + n * sum_on (assigned asked t) ix class) all
    ∙ amounts_same _ (λ ix class had. had.used + suc n * sum_on (assigned asked t) ix class) all (λ ix class had. omega arith)

-- beside what is taken
pub again_beside : (n : ℕ) (all : List Provider) (taken : Takings) (asked : Asked) (t : List ℕ)
    → again n (with_taken taken all) asked t ≡ with_more taken (assigned asked t) n all
unfolding with_taken with_more
again_beside n all taken asked t =
    again_amounts n (with_taken taken all) asked t
    ∙ amounts_again (λ ix class had. had.used + taken_in taken ix class) (λ ix class had. had.used + n * sum_on (assigned asked t) ix class) all
    ∙ amounts_same _ (λ ix class had. had.used + (taken_in taken ix class + n * sum_on (assigned asked t) ix class)) all (λ ix class had. omega arith)

module _ (cloud : Cloud) (old new : Takings) (asked : Asked) (t : List ℕ) (n : ℕ) (of : IsTakenOf (providers_of cloud) old)
    (more : (p : ℕ) (class : List ℕ) → p < count_in old → taken_in new p class ≡ taken_in old p class + n * sum_on (assigned asked t) p class) where
  -- what takes as much more leaves the same world
  pub taken_again : with_taken new (providers_of cloud) ≡ again n (with_taken old (providers_of cloud)) asked t
  unfolding with_taken with_more
  taken_again =
      amounts_same_found (λ ix class had. had.used + taken_in new ix class)
      (λ ix class had. had.used + (taken_in old ix class + n * sum_on (assigned asked t) ix class)) (providers_of cloud) (entries_rise cloud) (λ ix class had inside there. let now = more ix class (omega (arith, inside, of.count)) in omega (arith, now))
      ∙ sym (again_beside n (providers_of cloud) old asked t)

  pub fits_again : new.count ≡ old.count → TimesFit (providers_of cloud) old (assigned asked t) n → IsTakenOf (providers_of cloud) new
  fits_again same fit = record {
    count = same ∙ of.count;
    small = λ ix class inside some.
        let now = more ix class (omega (arith, inside, of.count)) in
        elim (cases_lt 0 (n * sum_on (assigned asked t) ix class)) [
          | inl asks ↦ let fits = fit ix class asks in omega (arith, now, fits)
          | inr none ↦ let fits = of.small ix class inside (omega (arith, now, none, some)) in omega (arith, now, none, fits)
        ];
  }

-- a candidate stays one as long as there is room for one more
chosen_beside : (all : List Provider) (taken : Takings) (asked : Asked) (t : List ℕ) (k : ℕ) → IsListBelow (length all) (length (slots_of asked)) t
    → is_candidate all asked t ≡ true → sums (with_more taken (assigned asked t) k all) (assigned asked t) ≡ true → IsChosen (with_more taken (assigned asked t) k all) asked t
unfolding with_more is_candidate
chosen_beside all taken asked t k below h kept =
    let amount : ℕ → List ℕ → UsedInventory → ℕ = λ ix class had. had.used + (taken_in taken ix class + k * sum_on (assigned asked t) ix class) in
    record {
      list = subst (λ (n : ℕ). IsListBelow n (length (slots_of asked)) t) (sym (amounts_size amount all)) below;
      candidate = keeps amount all asked (assigned asked t) h kept;
    }

pub chosen_again : (all : List Provider) (taken : Takings) (asked : Asked) (t : List ℕ) (n : ℕ) → IsListBelow (length all) (length (slots_of asked)) t
    → is_candidate all asked t ≡ true → ((k : ℕ) → k < n → sums (with_more taken (assigned asked t) k all) (assigned asked t) ≡ true)
    → (k : ℕ) → k < n → IsChosen (again k (with_taken taken all) asked t) asked t
chosen_again all taken asked t n below h kept k inside =
    subst (λ (w : List Provider). IsChosen w asked t) (sym (again_beside k all taken asked t)) (chosen_beside all taken asked t k below h (kept k inside))

-- so many placements of a list are taken at once
pub record AreTaken (all : List Provider) (asked : Asked) (old new : Takings) (t : List ℕ) (n : ℕ) : Type 0 where
  pub chosen : (k : ℕ) → k < n → IsChosen (again k (with_taken old all) asked t) asked t
  pub world : with_taken new all ≡ again n (with_taken old all) asked t
  pub fits : IsTakenOf all new

pub are_taken : (cloud : Cloud) (asked : Asked) (old new : Takings) (t : List ℕ) (n most : ℕ) → IsTakenOf (providers_of cloud) old
    → IsListBelow (length (providers_of cloud)) (length (slots_of asked)) t → is_candidate (providers_of cloud) asked t ≡ true
    → ((k : ℕ) → k < 4294967295 → sums (with_more old (assigned asked t) k (providers_of cloud)) (assigned asked t) ≡ nat_lt k most)
    → most ≤ 4294967295 → n ≤ most → TimesFit (providers_of cloud) old (assigned asked t) n → IsSame old new
    → ((p : ℕ) (class : List ℕ) → p < count_in old → taken_in new p class ≡ taken_in old p class + n * sum_on (assigned asked t) p class)
    → AreTaken (providers_of cloud) asked old new t n
are_taken cloud asked old new t n most of below h room small within fit same more = record {
  chosen = chosen_again (providers_of cloud) old asked t n below h
      (λ k inside. room k (omega (arith, inside, within, small)) ∙ lt-ltb k most (omega (arith, inside, within)));
  world = taken_again cloud old new asked t n of more;
  fits = fits_again cloud old new asked t n of more same.count fit;
}

-- where there is room for one, there is room for some
pub some_room : (all : List Provider) (taken : Takings) (asked : Asked) (t : List ℕ) (most : ℕ) → sums (with_taken taken all) (assigned asked t) ≡ true
    → sums (with_more taken (assigned asked t) 0 all) (assigned asked t) ≡ nat_lt 0 most → 0 < most
some_room all taken asked t most kept room =
    let none : with_taken taken all ≡ with_more taken (assigned asked t) 0 all = again_beside 0 all taken asked t in
    ltb-true 0 most (sym room ∙ subst (λ (w : List Provider). sums w (assigned asked t) ≡ true) none kept)

-- ---- how many are wanted

-- no more than are wanted
abbrev pub IsWanted : ℕ → Option ℕ → Type 0
IsWanted n None = ⊤
IsWanted n (Some wanted) = n ≤ wanted

pub wanted_most : (wanted : Option ℕ) (n : ℕ) → IsWanted (as_wanted wanted n) wanted
wanted_most None n = tt
wanted_most (Some w) n = omega arith

pub wanted_less : (wanted : Option ℕ) (n : ℕ) → as_wanted wanted n ≤ n
wanted_less None n = omega arith
wanted_less (Some w) n = omega arith

pub wanted_some : (wanted : Option ℕ) (n : ℕ) → (wanted ≡ Some 0 → ⊥) → 0 < n → 0 < as_wanted wanted n
wanted_some None n more some = some
wanted_some (Some w) n more some = let apart : w ≡ 0 → ⊥ = λ e. more (ap Some e) in omega (arith, some, apart)

one_wanted : (wanted : Option ℕ) (n : ℕ) → IsWanted (suc n) wanted → wanted ≡ Some 0 → ⊥
one_wanted None n h e = absurd (cc)
one_wanted (Some w) n h e = let none : w ≡ 0 = cc in omega (arith, h, none)

others_wanted : (wanted : Option ℕ) (n : ℕ) → IsWanted (suc n) wanted → IsWanted n (one_less wanted)
others_wanted None n h = tt
others_wanted (Some w) n h = omega (arith, h)

fewer_none : (wanted : Option ℕ) → wanted ≡ fewer wanted 0
fewer_none None = refl
fewer_none (Some w) = let same : w ≡ w - 0 = omega arith in ap Some same

fewer_more : (wanted : Option ℕ) (n : ℕ) → fewer (one_less wanted) n ≡ fewer wanted (suc n)
fewer_more None n = refl
fewer_more (Some w) n = let same : w - 1 - n ≡ w - suc n = omega arith in ap Some same

-- ---- placements

module _ (asked : Asked) (asks : asks_units asked ≡ true) (t : List ℕ) where
  -- each takes a unit at least
  pub units_again : (n : ℕ) (all : List Provider)
      → ((k : ℕ) → k < n → IsChosen (again k all asked t) asked t) → units_left (again n all asked t) + n ≤ units_left all
  units_again zero all chosen = omega arith
  units_again (suc n) all chosen =
      let now = claimed all (assigned asked t) in
      let first = claim_takes all asked t asks (chosen 0 (omega arith)) in
      let later = units_again n now (λ k inside. chosen (suc k) (omega (arith, inside))) in
      omega (arith, first, later)

  -- so many are made first, and then the others
  pub filled_again : (n : ℕ) (wanted : Option ℕ) (all : List Provider) (rest : List (List ℕ)) → IsWanted n wanted → AreAhead all asked (t ∷ rest)
      → ((k : ℕ) → k < n → IsChosen (again k all asked t) asked t)
      → filled wanted all asked ≡ replicate n t ++ filled (fewer wanted n) (again n all asked t) asked
  filled_again zero wanted all rest within ahead chosen = ap (λ (w : Option ℕ). filled w all asked) (fewer_none wanted)
  filled_again (suc n) wanted all rest within ahead chosen =
      let now = claimed all (assigned asked t) in
      let candidate = (chosen 0 (omega arith)).candidate in
      let later = filled_again n (one_less wanted) now rest (others_wanted wanted n within)
      (ahead_after all asked (t ∷ rest) (assigned asked t) ahead) (λ k inside. chosen (suc k) (omega (arith, inside))) in
      filled_first asked asks wanted all t _ (one_wanted wanted n within) (ahead_first all asked t rest candidate ahead)
      ∙ ap (λ (l : List (List ℕ)). t ∷ l) later ∙ ap (λ (w : Option ℕ). replicate (suc n) t ++ filled w (again n now asked t) asked) (fewer_more wanted n)

pub ahead_again : (n : ℕ) (all : List Provider) (asked : Asked) (t : List ℕ) (ls : List (List ℕ)) → AreAhead all asked ls
    → AreAhead (again n all asked t) asked ls
ahead_again zero all asked t ls ahead = ahead
ahead_again (suc n) all asked t ls ahead = ahead_again n (claimed all (assigned asked t)) asked t ls (ahead_after all asked ls (assigned asked t) ahead)

after_both : (xs ys : List (List ℕ)) (all : List Provider) (asked : Asked) → after all asked (xs ++ ys) ≡ after (after all asked xs) asked ys
after_both [] ys all asked = refl
after_both (x ∷ xs) ys all asked = after_both xs ys (claimed all (assigned asked x)) asked

-- ---- how far it has come

pub leads_on : (asked : Asked) (a b c : Stand) → LeadsTo asked a b → LeadsTo asked b c → LeadsTo asked a c
leads_on asked a b c first then = record { count = then.count ∙ first.count; world = then.world ∙ first.world }

pub leads_again : (asked : Asked) (s then : Stand) (n : ℕ) (t : List ℕ) → placements_at asked s ≡ replicate n t ++ placements_at asked then
    → then.count ≡ min (s.count + n) 4294967295 → then.world ≡ again n s.world asked t → LeadsTo asked s then
leads_again asked s then n t first count world =
    let later = placements_at asked then in
    let long : length (placements_at asked s) ≡ n + length later =
    ap length first ∙ (length-append (replicate n t) later ∙ ap (λ (k : ℕ). k + length later) (length-replicate n t)) in
    record {
      count = omega (arith, long, count);
      world = ap (λ (w : List Provider). after w asked later) world
          ∙ sym (ap (λ (l : List (List ℕ)). after s.world asked l) first ∙ after_both (replicate n t) later s.world asked);
    }

-- where nothing is still to come, all is counted
pub record IsCounted (wanted : Option ℕ) (all : List Provider) (asked : Asked) (f : Filled) : Type 0 where
  pub count : f.count ≡ min (length (filled wanted all asked)) 4294967295
  pub world : with_taken f.takings all ≡ after all asked (filled wanted all asked)

pub is_counted : (wanted : Option ℕ) (all : List Provider) (asked : Asked) (s : Stand) (f : Filled) → LeadsTo asked (start_of wanted all) s → placements_at asked s ≡ []
    → f.count ≡ s.count → s.count ≤ 4294967295 → with_taken f.takings all ≡ s.world → IsCounted wanted all asked f
is_counted wanted all asked s f leads none count small world =
    let nothing : length (placements_at asked s) ≡ 0 = ap length none in
    record {
      count = let whole = leads.count in omega (arith, nothing, count, small, whole);
      world = world ∙ (sym (ap (λ (l : List (List ℕ)). after s.world asked l) none) ∙ leads.world);
    }
