-- The providers on a walk's path, and the next choice behind it: each is among the choices of its slot.
use Rattle.std.proofs.Common.{◌≡◌, ◌∙◌, ℕ, ◌<◌, suc, true, ◌&&◌, [], ◌∷◌, ◌++◌, length, take, inl, inr, refl, sym, subst, arith, length-append}
use Rattle.std.specs.List.{slice_index, list_all, AllByRecursion as Each}
use Rattle.std.proofs.Math.ListN.{get_or-append}
use Rattle.std.proofs.Math.Seq.{take-suc}
use Rattle.std.proofs.lemmas.Bool.{cases_lt, and_parts}
use Rattle.std.proofs.lemmas.List.{get_or_push}
use Rattle.ac_query.specs.Asked.{slots_of}
use Rattle.ac_rules.specs.Placed.{placed_at, slot_at, assigned}
use Rattle.ac_rules.specs.Judge.{is_open}
use Rattle.ac_prune.specs.Search.{choices_at, next_at}
use Rattle.ac_rules.specs.Own.{fits}
use Rattle.ac_search.specs.Search.{next_front, IsSound}
use Rattle.ac_search.specs.Shown.Walk.{cloud_in, query_in, search_in, place_in, slot_in, front_in, path_in}
use Rattle.ac_search.specs.Search.Steps.{IsNext}
use Rattle.ac_search.specs.declared.walk.Walk.{Walk}
use Rattle.ac_rules.proofs.SlotLemmas.{each_at}
use Rattle.ac_prune.proofs.Search.SoughtLemmas.{low_at}
use Rattle.ac_prune.proofs.Search.OpenLemmas.{choices_here, each_choice, fits_placed}
use Rattle.ac_search.proofs.Steps.StepLemmas.{laws_in}

-- a choice of a slot fits it
choice_fits : (w : Walk) (i j : ℕ) → i < (search_in w).width → j < length (choices_at (search_in w) i) → fits (cloud_in w) (placed_at (query_in w) i (next_at (search_in w) i j)) ≡ true
unfolding choices_at
choice_fits w i j h l =
    let all = cloud_in w in
    let asked = query_in w in
    let P = λ (p : ℕ). ((is_open all asked [] && fits all (placed_at asked i p)) ≡ true) × (p < length all) in
    let both = each_at P (choices_at (search_in w) i) j (search_in w).count (subst (Each P) (sym (choices_here all asked i h)) (each_choice all asked (slot_at asked i))) l in
    (and_parts (is_open all asked []) _ both.0).1

-- so does each provider of the front that is tried
pub front_fits : (w : Walk) → place_in w < length (slot_in w) → list_all (λ x. fits (cloud_in w) x) (assigned (query_in w) (front_in w)) ≡ true
front_fits w among =
    let p = next_at (search_in w) w.depth (place_in w) in
    let long : length (front_in w) ≡ suc w.depth = length-append (path_in w) (p ∷ []) ∙ omega (arith, w.sound.long) in
    fits_placed (cloud_in w) (slots_of (query_in w)) (front_in w) (omega (arith, long, w.sound.within))
    (λ i b. elim (cases_lt i w.depth) [
      | inl l ↦ let on = w.sound.placed i l in rw (get_or-append (path_in w) (p ∷ []) 0 i (omega (arith, w.sound.long)), ← on.1) (choice_fits w i (slice_index (take w.depth w.places.items) i) (omega (arith, w.sound.within)) on.0)
      | inr g ↦ let here : i ≡ w.depth = omega (arith, long) in rw (here, get_or_push (path_in w) p 0 w.depth w.sound.long) (choice_fits w w.depth (place_in w) w.sound.within among)
    ])

-- the next choice is a provider
pub next_within : (w : Walk) (p : ℕ) → IsNext w p → p < length (cloud_in w)
next_within w p next = rw next.is (low_at (search_in w) (laws_in w) w.depth (place_in w) w.sound.within next.among)

-- where there is something to try, the path is open
pub path_opens : (w : Walk) → place_in w < length (slot_in w) → is_open (cloud_in w) (query_in w) (path_in w) ≡ true
path_opens w among = elim (cases_lt 0 w.depth) [
  | inl l ↦ w.sound.opens l
  | inr g ↦ let none : w.depth ≡ 0 = omega arith in rw none ((laws_in w).begins (let some : 0 < length (slot_in w) = omega (arith, among) in rw none at some))
]

-- it stands one below its depth
pub deeper : (w : Walk) (e : ℕ) → w.depth ≡ suc e
    → IsSound (search_in w) w.least.items (take e w.path.items ++ slice_index w.path.items e ∷ []) (take e w.places.items ++ slice_index w.places.items e ∷ []) (suc e) (slice_index w.places.items (suc e)) w.seeking w.probes
deeper w e is =
    let s = rw is at w.sound in
    rw (← take-suc w.path.items e 0 (omega (arith, w.path_len, w.sound.within)), ← take-suc w.places.items e 0 (omega (arith, w.places_len, w.sound.within))) s

pub front_deep : (w : Walk) (e : ℕ) → w.depth ≡ suc e → front_in w ≡ next_front (search_in w) (take e w.path.items ++ slice_index w.path.items e ∷ []) (suc e) (slice_index w.places.items (suc e))
front_deep w e is = let size : e < length w.path.items = omega (arith, w.path_len, w.sound.within) in rw (is, take-suc w.path.items e 0 size) refl
