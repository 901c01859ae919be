-- Placements are first fits, never fall, and leave no candidate; a limit takes the first of them.
use Rattle.std.proofs.Common.{◌≡◌, ◌∙◌, ◌≤◌, ℕ, zero, suc, true, false, List, [], ◌∷◌, map, length, take, None, Some, refl, sym, ap, subst, arith}
use Rattle.std.specs.List.{AllByRecursion as Each}
use Rattle.std.proofs.Math.Path.{fun_ext}
use Rattle.std.proofs.Math.Seq.{take-nil}
use Rattle.ac_cloud.specs.World.{Provider, id_at}
use Rattle.ac_query.specs.Asked.{Asked, slots_of}
use Rattle.ac_rules.specs.Claims.{claimed}
use Rattle.ac_rules.specs.Laws.{AreInOrder}
use Rattle.ac_rules.specs.Lists.{IsListBelow, lex_lt}
use Rattle.ac_rules.specs.Pages.{candidates, ids_of, rest}
use Rattle.ac_rules.specs.Placed.{Placed, assigned}
use Rattle.ac_rules.proofs.Elements.{each_all, each_map, each_weaker, filter_all}
use Rattle.ac_rules.proofs.EachSlot.ClaimLaws.{claims_alone, claims_narrow}
use Rattle.ac_rules.proofs.Lists.PageLemmas.{rest_begins}
use Rattle.ac_rules.proofs.Lists.RestLemmas.{IsChosen}
use Rattle.ac_fill.specs.Filled.{asks_units, units_left, placements, filled, after}
use Rattle.ac_fill.specs.Laws.{AreFirstFits, FillsFirstFits, NeverFalls, FillsInOrder, FillsUp, LimitTakesFirst}
use Rattle.ac_fill.proofs.Placing.{first_chosen, first_takes, placed_first, placed_none, placed_over}

-- ---- first fits

first_fits : (n : ℕ) (all : List Provider) (asked : Asked) (ls : List (List ℕ)) → candidates all asked ≡ ls → AreFirstFits all asked (placements n all asked)
first_fits n all asked [] e = rw (placed_none n all asked e) tt
first_fits zero all asked (t ∷ ts) e = rw (placed_over all asked) tt
first_fits (suc n) all asked (t ∷ ts) e =
    let now = claimed all (assigned asked t) in
    rw (placed_first n all asked t ts e) (rw e refl, first_fits n now asked (candidates now asked) refl)

pub fills_first_fits : FillsFirstFits
unfolding filled
fills_first_fits None all asked = first_fits (units_left all) all asked (candidates all asked) refl
fills_first_fits (Some n) all asked = first_fits n all asked (candidates all asked) refl

-- ---- the order of tokens

-- what is a candidate after a claim was one before it
pub chosen_before : (all : List Provider) (asked : Asked) (xs : List Placed) (u : List ℕ) → IsChosen (claimed all xs) asked u → IsChosen all asked u
chosen_before all asked xs u h = record {
  list = subst (λ (n : ℕ). IsListBelow n (length (slots_of asked)) u) (claims_alone all xs).0.count h.list;
  candidate = claims_narrow all xs asked u h.candidate;
}

each_chosen : (n : ℕ) (all : List Provider) (asked : Asked) (ls : List (List ℕ)) → candidates all asked ≡ ls → Each (IsChosen all asked) (placements n all asked)
each_chosen n all asked [] e = rw (placed_none n all asked e) tt
each_chosen zero all asked (t ∷ ts) e = rw (placed_over all asked) tt
each_chosen (suc n) all asked (t ∷ ts) e =
    let now = claimed all (assigned asked t) in
    rw (placed_first n all asked t ts e)
    (first_chosen all asked t ts e, each_weaker (IsChosen now asked) (IsChosen all asked) (placements n now asked) (chosen_before all asked (assigned asked t)) (each_chosen n now asked (candidates now asked) refl))

-- without a token, all candidates are the rest
pub all_rest : (all : List Provider) (asked : Asked) → rest all asked None ≡ candidates all asked
unfolding rest
all_rest all asked = filter_all (λ t. true) (candidates all asked) (each_all (λ t. true ≡ true) (candidates all asked) (λ t. refl))

ids_kept : (all : List Provider) (xs : List Placed) (ts : List (List ℕ)) → map (λ t. ids_of (claimed all xs) t) ts ≡ map (λ t. ids_of all t) ts
ids_kept all xs ts =
    let same : (λ (ix : ℕ). id_at (claimed all xs) ix) ≡ (λ (ix : ℕ). id_at all ix) = fun_ext (λ (ix : ℕ). (claims_alone all xs).0.ids ix) in
    ap (λ (id : ℕ → ℕ). map (λ (t : List ℕ). map id t) ts) same

order_kept : (all : List Provider) (xs : List Placed) → AreInOrder all → AreInOrder (claimed all xs)
order_kept all xs order = λ p q less inside.
    let kept = (claims_alone all xs).0 in
    omega (arith, order p q less (omega (arith, inside, kept.count)), kept.ids p, kept.ids q)

never_falls : (n : ℕ) (all : List Provider) (asked : Asked) (ls : List (List ℕ)) → AreInOrder all → candidates all asked ≡ ls → NeverFalls (map (λ t. ids_of all t) (placements n all asked))
never_falls n all asked [] order e = rw (placed_none n all asked e) tt
never_falls zero all asked (t ∷ ts) order e = rw (placed_over all asked) tt
never_falls (suc n) all asked (t ∷ ts) order e =
    let now = claimed all (assigned asked t) in
    let least = ((rest_begins all order asked).first None t ts (all_rest all asked ∙ e)).least in
    let later : Each (IsChosen all asked) (placements n now asked) =
    each_weaker (IsChosen now asked) (IsChosen all asked) (placements n now asked) (chosen_before all asked (assigned asked t)) (each_chosen n now asked (candidates now asked) refl) in
    rw (placed_first n all asked t ts e) (
      each_map (λ y. lex_lt y (ids_of all t) ≡ false) (λ u. ids_of all u) (placements n now asked) (each_weaker (IsChosen all asked) (λ u. lex_lt (ids_of all u) (ids_of all t) ≡ false) (placements n now asked) (λ u h. least u h.list h.candidate refl) later),
      subst NeverFalls (ids_kept all (assigned asked t) (placements n now asked))
          (never_falls n now asked (candidates now asked) (order_kept all (assigned asked t) order) refl),
    )

pub fills_in_order : FillsInOrder
unfolding filled
fills_in_order None all asked order = never_falls (units_left all) all asked (candidates all asked) order refl
fills_in_order (Some n) all asked order = never_falls n all asked (candidates all asked) order refl

-- ---- the end

none_left : (asked : Asked) → asks_units asked ≡ true → (n : ℕ) (all : List Provider) (ls : List (List ℕ)) → candidates all asked ≡ ls → units_left all ≤ n
    → candidates (after all asked (placements n all asked)) asked ≡ []
none_left asked asks n all [] e h = rw (placed_none n all asked e) e
none_left asked asks zero all (t ∷ ts) e h = let less = first_takes asked asks all t ts e in absurd (omega (arith, less, h))
none_left asked asks (suc n) all (t ∷ ts) e h =
    let less = first_takes asked asks all t ts e in
    let now = claimed all (assigned asked t) in
    rw (placed_first n all asked t ts e) (none_left asked asks n now (candidates now asked) refl (omega (arith, less, h)))

pub fills_up : FillsUp
unfolding filled
fills_up all asked asks = none_left asked asks (units_left all) all (candidates all asked) refl (omega arith)

-- fewer placements are the first of as many as there are units left
first_placements : (asked : Asked) → asks_units asked ≡ true → (n m : ℕ) (all : List Provider) (ls : List (List ℕ)) → candidates all asked ≡ ls → units_left all ≤ m
    → placements n all asked ≡ take n (placements m all asked)
first_placements asked asks n m all [] e h = placed_none n all asked e ∙ sym (ap (take n) (placed_none m all asked e) ∙ take-nil n)
first_placements asked asks zero m all (t ∷ ts) e h = placed_over all asked
first_placements asked asks (suc n) zero all (t ∷ ts) e h = let less = first_takes asked asks all t ts e in absurd (omega (arith, less, h))
first_placements asked asks (suc n) (suc m) all (t ∷ ts) e h =
    let less = first_takes asked asks all t ts e in
    let now = claimed all (assigned asked t) in
    placed_first n all asked t ts e
    ∙ ap (λ l. t ∷ l) (first_placements asked asks n m now (candidates now asked) refl (omega (arith, less, h)))
    ∙ sym (ap (take (suc n)) (placed_first m all asked t ts e))

pub limit_takes_first : LimitTakesFirst
unfolding filled
limit_takes_first n all asked asks = first_placements asked asks n (units_left all) all (candidates all asked) refl (omega arith)
