-- One placement more, and how placements end.
use Rattle.std.proofs.Common.{Bool, ◌≡◌, ◌∙◌, ◌<◌, ◌≤◌, ◌+◌, ℕ, zero, suc, true, false, List, [], ◌∷◌, ◌++◌, length, min, Option, Result, Ok, Err, refl, sym, ap, subst, arith, inl, inr, append-nil, slice_index, slice_index_or}
use Rattle.std.specs.Prelude.{⊤}
use Rattle.std.specs.Result.{IsErrAnd}
use Rattle.std.proofs.lemmas.Bool.{cases_lt, false_from_ne_true, false≢true}
use Rattle.std.proofs.lemmas.Result.{IfOk-weaker, err_from_is_err_and}
use Rattle.ac_cloud.specs.World.{Provider}
use Rattle.ac_cloud.specs.Cloud.CloudWorld.{providers_of}
use Rattle.ac_cloud.specs.declared.cloud.Cloud.{Cloud}
use Rattle.ac_cloud.proofs.Amounts.{amounts_size}
use Rattle.ac_cloud.proofs.InOrder.{entries_rise}
use Rattle.ac_query.specs.Asked.{Asked, Slot, slots_of}
use Rattle.ac_query.specs.Shown.Queries.{asked_of}
use Rattle.ac_report.specs.Outcomes.{WritesEach}
use Rattle.ac_report.specs.Called.{line_by}
use Rattle.ac_report.specs.declared.fault.PageFault.{PageFault}
use Rattle.ac_report.specs.declared.fault.PageFault.TheVariants as fault
use Rattle.ac_report.proofs.Pages.Writing.{halted, refused, stopped, wrote_none, wrote_on}
use Rattle.ac_rules.specs.Claims.{claimed}
use Rattle.ac_rules.specs.Judge.{is_candidate, is_open}
use Rattle.ac_rules.specs.Lists.{IsListBelow}
use Rattle.ac_rules.specs.Placed.{Placed, assigned, no_slot, placed, placed_at}
use Rattle.ac_rules.specs.Together.{holds_sums, sum_on, sums}
use Rattle.ac_rules.proofs.Elements.{Among}
use Rattle.ac_rules.proofs.EachSlot.ClaimLaws.{keeps}
use Rattle.ac_rules.proofs.EachSlot.FrontLemmas.{open_parts, prefix_open}
use Rattle.ac_rules.proofs.Lists.RestLemmas.{IsChosen}
use Rattle.ac_fill.specs.Ends.{Ends, PlacesAll, Stand, placements_at}
use Rattle.ac_fill.specs.Filled.{after}
use Rattle.ac_fill.specs.Shown.{asked_in, count_in, taken_in, with_taken, IsSame, IsTakenOf, SumsFit}
use Rattle.ac_fill.specs.declared.placements.Filled.{Filled}
use Rattle.ac_fill.specs.declared.takings.Takings.{Takings}
use Rattle.ac_fill.proofs.Claimed.{among_all}
use Rattle.ac_fill.proofs.Taken.{taken_claims}

-- ---- the world beside what is taken

-- a candidate stays one where Sums is kept
pub stays : (all : List Provider) (t : Takings) (asked : Asked) (list : List ℕ) → is_candidate all asked list ≡ true → sums (with_taken t all) (assigned asked list) ≡ true
    → is_candidate (with_taken t all) asked list ≡ true
unfolding is_candidate with_taken
stays all t asked list h kept = keeps (λ ix class had. had.used + taken_in t ix class) all asked (assigned asked list) h kept

-- and where its front doesn't keep Sums, it is none
pub front_leaves : (all : List Provider) (asked : Asked) (front more : List ℕ) → sums all (assigned asked front) ≡ false → is_candidate all asked (front ++ more) ≡ false
unfolding is_open
front_leaves all asked front more full = false_from_ne_true _ (λ is. false≢true (sym full ∙ (open_parts all asked (assigned asked front) (prefix_open all asked front more is)).sums))

pub leaves : (all : List Provider) (asked : Asked) (list : List ℕ) → sums all (assigned asked list) ≡ false → is_candidate all asked list ≡ false
leaves all asked list full = subst (λ (t : List ℕ). is_candidate all asked t ≡ false) (append-nil list) (front_leaves all asked list [] full)

-- each slot of a list is among its slots
among_placed : (slots : List Slot) (t : List ℕ) (s : ℕ) → s < length t → length t ≤ length slots → Among (placed slots t) (record { slot = slice_index_or slots s no_slot; provider = slice_index t s })
among_placed [] t s inside short = absurd (omega (arith, inside, short))
among_placed (x ∷ slots) [] s inside short = absurd (omega (arith, inside))
among_placed (x ∷ slots) (p ∷ t) zero inside short = inl refl
among_placed (x ∷ slots) (p ∷ t) (suc s) inside short = inr (among_placed slots t s (omega (arith, inside)) (omega (arith, short)))

-- where the provider of a slot has no room, Sums is not kept
pub slot_full : (all : List Provider) (asked : Asked) (list : List ℕ) (s : ℕ) → s < length list → length list ≤ length (slots_of asked)
    → holds_sums all (assigned asked list) (placed_at asked s (slice_index list s)) ≡ false → sums all (assigned asked list) ≡ false
unfolding sums
slot_full all asked list s inside short full = false_from_ne_true _ (λ kept.
    false≢true (sym full ∙ among_all (holds_sums all (assigned asked list)) (assigned asked list) (placed_at asked s (slice_index list s)) kept (among_placed (slots_of asked) list s inside short)))

pub more_taken : (cloud : Cloud) (old new : Takings) (xs : List Placed) → IsTakenOf (providers_of cloud) old
    → ((p : ℕ) (class : List ℕ) → p < count_in old → taken_in new p class ≡ taken_in old p class + sum_on xs p class)
    → with_taken new (providers_of cloud) ≡ claimed (with_taken old (providers_of cloud)) xs
unfolding with_taken
more_taken cloud old new xs of more =
    taken_claims (providers_of cloud) (taken_in old) (taken_in new) xs (entries_rise cloud) (λ p class inside. more p class (omega (arith, inside, of.count)))

pub fits_more : (all : List Provider) (old new : Takings) (xs : List Placed) → IsTakenOf all old → new.count ≡ old.count
    → ((p : ℕ) (class : List ℕ) → p < count_in old → taken_in new p class ≡ taken_in old p class + sum_on xs p class) → SumsFit all old xs → IsTakenOf all new
fits_more all old new xs of same more fit = record {
  count = same ∙ of.count;
  small = λ ix class inside some.
      let now = more ix class (omega (arith, inside, of.count)) in
      elim (cases_lt 0 (sum_on xs ix class)) [
        | inl asks ↦ let fits = fit ix class asks in omega (arith, now, fits)
        | inr none ↦ let fits = of.small ix class inside (omega (arith, now, none, some)) in omega (arith, now, none, fits)
      ];
}

pub same_asked : (old new : Takings) → IsSame old new → asked_in new ≡ asked_in old
same_asked old new same = ap (λ q. asked_of q.now) same.query

-- a list is placed once more
pub record IsStep (cloud : Cloud) (asked : Asked) (old new : Takings) (list : List ℕ) : Type 0 where
  pub chosen : IsChosen (with_taken old (providers_of cloud)) asked list
  pub world : with_taken new (providers_of cloud) ≡ claimed (with_taken old (providers_of cloud)) (assigned asked list)
  pub fits : IsTakenOf (providers_of cloud) new

chosen_now : (all : List Provider) (t : Takings) (asked : Asked) (list : List ℕ) → IsListBelow (length all) (length (slots_of asked)) list → is_candidate all asked list ≡ true
    → sums (with_taken t all) (assigned asked list) ≡ true → IsChosen (with_taken t all) asked list
unfolding with_taken
chosen_now all t asked list below h kept = record {
  list = subst (λ (n : ℕ). IsListBelow n (length (slots_of asked)) list) (sym (amounts_size (λ ix class had. had.used + taken_in t ix class) all)) below;
  candidate = stays all t asked list h kept;
}

pub is_step : (cloud : Cloud) (asked : Asked) (old new : Takings) (list : List ℕ) → IsTakenOf (providers_of cloud) old → IsListBelow (length (providers_of cloud)) (length (slots_of asked)) list
    → is_candidate (providers_of cloud) asked list ≡ true → sums (with_taken old (providers_of cloud)) (assigned asked list) ≡ true → SumsFit (providers_of cloud) old (assigned asked list) → IsSame old new
    → ((p : ℕ) (class : List ℕ) → p < count_in old → taken_in new p class ≡ taken_in old p class + sum_on (assigned asked list) p class) → IsStep cloud asked old new list
is_step cloud asked old new list of below h kept fit same more = record {
  chosen = chosen_now (providers_of cloud) old asked list below h kept;
  world = more_taken cloud old new (assigned asked list) of more;
  fits = fits_more (providers_of cloud) old new (assigned asked list) of same.count more fit;
}

-- ---- ends

module _ {W : Type 0} {taken : W → Option (List ℕ)} {fails : W → ℕ} {named : Bool} (all : List Provider) (asked : Asked) where
  pub ends_none : (s : Stand) (f : Filled) (a : W) → placements_at asked s ≡ [] → f.count ≡ s.count → s.count ≤ 4294967295
      → with_taken f.takings all ≡ s.world → IsTakenOf all f.takings → Ends taken fails named all asked s a a (Ok f)
  ends_none s f a none count small world fits = record {
    writes = wrote_none (line_by named all) (placements_at asked s) a f none;
    count = rw none (omega (arith, count, small));
    world = rw none world;
    fits = fits;
  }

  pub ends_refused : (s : Stand) (a : W) → Ends taken fails named all asked s a a (Err fault.NoMemory)
  ends_refused s a = record { writes = refused _ (line_by named all) (placements_at asked s) a (Err fault.NoMemory) refl; count = tt; world = tt; fits = tt }

  -- nothing more is written where the search stops
  pub ends_halted : (s : Stand) (a : W) → Ends taken fails named all asked s a a (Err fault.TooManyTries)
  ends_halted s a = record { writes = halted _ (line_by named all) (placements_at asked s) a (Err fault.TooManyTries) refl tt; count = tt; world = tt; fits = tt }

  module _ (s next : Stand) (t : List ℕ) (first : placements_at asked s ≡ t ∷ placements_at asked next) {a b : W} where
    pub ends_stopped : {Z : Type 0} {e : PageFault} → WritesEach {X = Z} taken fails ⊥ a b (Err e) (line_by named all) (t ∷ []) → Ends taken fails named all asked s a b (Err e)
    ends_stopped wrote = record { writes = rw first (stopped (line_by named all) (t ∷ []) (placements_at asked next) wrote (λ _. tt) refl); count = tt; world = tt; fits = tt }

    -- a placement is made, and then the others are
    pub ends_on : {Z : Type 0} {z : Z} → next.count ≡ min (s.count + 1) 4294967295 → next.world ≡ claimed s.world (assigned asked t)
        → WritesEach taken fails ⊥ a b (Ok z) (line_by named all) (t ∷ []) → (r : Result Filled PageFault) (c : W) → Ends taken fails named all asked next b c r → Ends taken fails named all asked s a c r
    ends_on count world wrote r c then = record {
      writes = rw first (wrote_on (line_by named all) (t ∷ []) wrote then.writes);
      count = rw first (IfOk-weaker r _ _ (λ x e. omega (arith, e, count)) then.count);
      world = IfOk-weaker r _ _ (λ x w. w ∙ (ap (λ (v : List Provider). after v asked (placements_at asked next)) world ∙ sym (ap (λ (l : List (List ℕ)). after s.world asked l) first))) then.world;
      fits = then.fits;
    }

  -- an error that is handed on
  pub ends_err : {s : Stand} {r : Result Filled PageFault} {e : PageFault} {a b : W} → IsErrAnd r (λ d. d ≡ e) → Ends taken fails named all asked s a b (Err e)
      → Ends taken fails named all asked s a b r
  ends_err {r = r} h ends = let is = err_from_is_err_and r h in rw (is.1, is.2) ends

  -- an error within the placements of a list
  pub places_err : {s : Stand} (then : Stand) (rest : List (List ℕ)) {r : Result ⊤ PageFault} {e : PageFault} {a b : W} → IsErrAnd r (λ d. d ≡ e)
      → Ends taken fails named all asked s a b (Err e) → PlacesAll taken fails named all asked s then rest a b r
  places_err then rest {r = r} h ends = let is = err_from_is_err_and r h in rw (is.1, is.2) record { ahead = tt; goes = tt; stops = ends }
