-- No list of placements is longer than the bound: each placement takes from it.
use Rattle.std.proofs.Common.{◌≡◌, ◌∙◌, ◌<◌, ◌≤◌, ℕ, zero, suc, Bool, true, List, [], ◌∷◌, length, map, None, Some, refl, sym, ap, arith, inl, inr, nat_lt, unwrap_or, min}
use Rattle.std.specs.List.{list_all, list_any, filter, flat_map, fold, range_with_len, AllByRecursion as Each}
use Rattle.std.proofs.Math.Path.{fun_ext}
use Rattle.std.proofs.lemmas.Bool.{and_from, and_parts, cases_Bool, false≢true, or_left, or_right}
use Rattle.std.proofs.lemmas.Bool.Decides.{nat_tests}
use Rattle.ac_cloud.specs.World.{Provider, entry_in, is_available_at, provider_at}
use Rattle.ac_prune.specs.Ahead.{hosts_of}
use Rattle.ac_prune.specs.Fitting.{fits_at}
use Rattle.ac_prune.specs.Marks.{stand_at}
use Rattle.ac_prune.proofs.Roots.HostLemmas.{among_hosts, stands}
use Rattle.ac_query.specs.Asked.{Asked, Slot, slots_of}
use Rattle.ac_rules.specs.Claims.{claimed}
use Rattle.ac_rules.specs.Judge.{is_candidate}
use Rattle.ac_rules.specs.Own.{units_fit, traits_fit, aggregates_fit, tree_fits}
use Rattle.ac_rules.specs.Pages.{candidates}
use Rattle.ac_rules.specs.Placed.{Placed, assigned}
use Rattle.ac_rules.specs.Together.{holds, holds_sums, hosts_all, sum_on, sums, takes_root}
use Rattle.ac_rules.proofs.Elements.{Among, among_filter, among_flat_map, among_map, each_append, each_filter, each_map, each_weaker}
use Rattle.ac_rules.proofs.EachSlot.FrontLemmas.{Opens, candidate_opens}
use Rattle.ac_rules.proofs.Lists.ListLemmas.{among_range}
use Rattle.ac_rules.proofs.Lists.RestLemmas.{IsChosen, among_candidates, each_candidate}
use Rattle.ac_fill.specs.Bounds.{Want, times, slot_wants, wants, lesser, least, most_of, most_together, most_at, most_by_root, most_placed}
use Rattle.ac_fill.specs.Filled.{asks_units, filled, placements, units_left}
use Rattle.ac_fill.specs.Laws.{ArePlaced, FillsWithin, NoneIsLonger}
use Rattle.ac_fill.proofs.Ordered.{chosen_before}
use Rattle.ac_fill.proofs.Placing.{first_chosen, placed_first, placed_none, placed_over}
use Rattle.std.proofs.lemmas.Grind.{common_steps}
use Rattle.ac_fill.proofs.Claimed.{Need, sum_falls, sum_fewer, times_less, times_fall, alone, takes_kept, hosts_kept, among_all, slot_placed, provider_low, need_amount, slot_sum, room_left, fits_all}

-- ---- what is wanted

record IsWanted (asked : Asked) (want : Want) : Type 0 where
  slot : Among (slots_of asked) want.slot
  need : Among want.slot.needs want.need
  some : 0 < want.need.1

each_slot : {X : Type 0} (P : X → Type 0) (xs : List X) → ((x : X) → Among xs x → P x) → Each P xs
each_slot P [] h = tt
each_slot P (x ∷ xs) h = (h x (inl refl), each_slot P xs (λ y later. h y (inr later)))

each_flat : {X Y : Type 0} (P : Y → Type 0) (f : X → List Y) (xs : List X) → ((x : X) → Among xs x → Each P (f x)) → Each P (flat_map f xs)
each_flat P f [] h = tt
each_flat P f (x ∷ xs) h = each_append P (f x) (flat_map f xs) (h x (inl refl)) (each_flat P f xs (λ y later. h y (inr later)))

above_zero : (n : ℕ) → nat_lt 0 n ≡ true → 0 < n
above_zero n h = grind (arith, nat_tests)

each_wanted : (asked : Asked) → Each (IsWanted asked) (wants asked)
each_wanted asked =
    each_flat (IsWanted asked) slot_wants (slots_of asked) (λ slot here. each_map (IsWanted asked) (λ need. record { slot = slot; need = need }) (filter (λ need. nat_lt 0 need.1) slot.needs)
    (each_weaker _ (λ need. IsWanted asked (record { slot = slot; need = need })) (filter (λ need. nat_lt 0 need.1) slot.needs) (λ need h. record { slot = here; need = h.1; some = above_zero need.1 h.0 })
    (each_filter (Among slot.needs) (λ need. nat_lt 0 need.1) slot.needs (each_slot (Among slot.needs) slot.needs (λ need among. among)))))

-- ---- a candidate's claim

-- each provider of a list is among some places
abbrev AreAmong : List Placed → List ℕ → Type 0
AreAmong xs places = (x : Placed) → Among xs x → Among places x.provider

-- providers among which a candidate stands have all that is wanted less often after its claim
claim_falls : (all : List Provider) (asked : Asked) (t places : List ℕ) → IsChosen all asked t → AreAmong (assigned asked t) places
    → (want : Want) → IsWanted asked want → times (claimed all (assigned asked t)) places want < times all places want
unfolding is_candidate sums holds_sums
claim_falls all asked t places chosen there want wanted =
    let xs = assigned asked t in
    let opens : Opens all asked xs = candidate_opens all asked xs chosen.candidate in
    let at = slot_placed (slots_of asked) t (length all) want.slot chosen.list wanted.slot in
    let ix = at.0 in
    let x : Placed = record { slot = want.slot; provider = ix } in
    let own =
    fits_all all x (among_all (λ x. units_fit all x) xs x opens.units at.2) (among_all (λ x. traits_fit all x) xs x opens.traits at.2)
    (among_all (λ x. aggregates_fit all x) xs x opens.aggregates at.2) (among_all (λ x. tree_fits all x) xs x opens.tree at.2) in
    let rooms = among_all (λ x. holds_sums all xs x) xs x opens.sums at.2 in
    let room = among_all (λ need. holds (provider_at all ix) need.0 (sum_on xs ix need.0)) want.slot.needs want.need rooms wanted.need in
    let first = need_amount want.slot.needs want.need wanted.need in
    let all_ask = slot_sum xs x want.need.0 at.2 in
    times_fall all xs places want ix wanted.some (there x at.2) own (omega (arith, first, all_ask)) (room_left (entry_in (provider_at all ix) want.need.0) (sum_on xs ix want.need.0) room)

-- ---- the least

fold_less : (f g : Want → ℕ) (m n : ℕ) (ws : List Want) → m ≤ n → Each (λ w. f w ≤ g w) ws → unwrap_or (fold lesser (Some m) (map f ws)) 0 ≤ unwrap_or (fold lesser (Some n) (map g ws)) 0
fold_less f g m n [] h each = h
fold_less f g m n (w ∷ ws) h each = let here = each.0 in fold_less f g (min m (f w)) (min n (g w)) ws (omega (arith, h, here)) each.1

least_less : (f g : Want → ℕ) (ws : List Want) → Each (λ w. f w ≤ g w) ws → least (map f ws) ≤ least (map g ws)
least_less f g [] each = omega arith
least_less f g (w ∷ ws) each = fold_less f g (f w) (g w) ws each.0 each.1

fold_falls : (f g : Want → ℕ) (m n : ℕ) (ws : List Want) → m < n → Each (λ w. f w < g w) ws → unwrap_or (fold lesser (Some m) (map f ws)) 0 < unwrap_or (fold lesser (Some n) (map g ws)) 0
fold_falls f g m n [] h each = h
fold_falls f g m n (w ∷ ws) h each = let here = each.0 in fold_falls f g (min m (f w)) (min n (g w)) ws (omega (arith, h, here)) each.1

least_falls : (f g : Want → ℕ) (ws : List Want) (w : Want) → Among ws w → Each (λ w. f w < g w) ws → least (map f ws) < least (map g ws)
least_falls f g [] w here each = absurd here
least_falls f g (v ∷ ws) w here each = fold_falls f g (f v) (g v) ws each.0 each.1

-- ---- something is wanted

some_need : (needs : List Need) → list_any (λ need. nat_lt 0 need.1) needs ≡ true → (need : Need) × Among needs need × (nat_lt 0 need.1 ≡ true)
some_need [] h = absurd (false≢true h)
some_need (need ∷ needs) h = grind (arith, common_steps, cases_Bool, some_need needs)

some_slot : (slots : List Slot) → list_any (λ slot. list_any (λ need. nat_lt 0 need.1) slot.needs) slots ≡ true
    → (slot : Slot) × (need : Need) × Among slots slot × Among slot.needs need × (nat_lt 0 need.1 ≡ true)
some_slot [] h = absurd (false≢true h)
some_slot (s ∷ slots) h = grind (arith, common_steps, cases_Bool, some_slot slots, some_need)

some_want : (asked : Asked) → asks_units asked ≡ true → (want : Want) × Among (wants asked) want
unfolding asks_units
some_want asked asks =
    let some = some_slot (slots_of asked) asks in
    let want : Want = record { slot = some.0; need = some.1 } in
    (want, among_flat_map slot_wants (slots_of asked) some.0 want some.2 (among_map (λ need. record { slot = some.0; need = need }) (filter (λ need. nat_lt 0 need.1) some.0.needs) some.1 (among_filter (λ need. nat_lt 0 need.1) some.0.needs some.1 some.3 some.4)))

-- ---- roots that fit

any_among : {X : Type 0} (f : X → Bool) (xs : List X) (x : X) → Among xs x → f x ≡ true → list_any f xs ≡ true
any_among f [] x here h = absurd here
any_among f (y ∷ xs) x (inl is) h = or_left (f y) (list_any f xs) (ap f is ∙ h)
any_among f (y ∷ xs) x (inr later) h = or_right (f y) (list_any f xs) (any_among f xs x later h)

any_of : {X : Type 0} (P : X → Type 0) (f : X → Bool) (xs : List X) → Each P xs → list_any f xs ≡ true → (x : X) × P x × (f x ≡ true)
any_of P f [] each h = absurd (false≢true h)
any_of P f (x ∷ xs) each h = elim (cases_Bool (f x)) [ inl here ↦ (x, each.0, here) | inr later ↦ any_of P f xs each.1 (rw later at h) ]

-- where a candidate stands at a root that the query takes, it fits
fits_from : (all : List Provider) (asked : Asked) (t : List ℕ) (r : ℕ) → IsChosen all asked t → takes_root all asked r ≡ true → stand_at all t r ≡ true → fits_at all asked r ≡ true
fits_from all asked t r chosen takes stand =
    and_from (takes_root all asked r) _ takes (any_among (λ t. stand_at all t r) (candidates all asked) t (among_candidates all asked t chosen) stand)

-- a root that fits after a claim did so before
fits_narrow : (all : List Provider) (asked : Asked) (xs : List Placed) (r : ℕ) → fits_at (claimed all xs) asked r ≡ true → fits_at all asked r ≡ true
fits_narrow all asked xs r h =
    let parts = and_parts (takes_root (claimed all xs) asked r) _ h in
    let some = any_of (IsChosen (claimed all xs) asked) (λ t. stand_at (claimed all xs) t r) (candidates (claimed all xs) asked) (each_candidate (claimed all xs) asked) parts.1 in
    let same : stand_at (claimed all xs) some.0 r ≡ stand_at all some.0 r = ap (λ (test : ℕ → Bool). list_all test some.0) (fun_ext (λ (p : ℕ). (alone all xs).available p r)) in
    fits_from all asked some.0 r (chosen_before all asked xs some.0 some.1) (sym (takes_kept all xs asked r) ∙ parts.0) (sym same ∙ some.2)

-- ---- the bound falls

module _ (asked : Asked) (asks : asks_units asked ≡ true) (all : List Provider) (t : List ℕ) (chosen : IsChosen all asked t) where
  most_less : (places : List ℕ) → most_of (claimed all (assigned asked t)) places asked ≤ most_of all places asked
  unfolding most_of
  most_less places =
      least_less (times (claimed all (assigned asked t)) places) (times all places) (wants asked)
      (each_weaker (IsWanted asked) _ (wants asked) (λ want wanted. times_less all (assigned asked t) places want wanted.some) (each_wanted asked))

  most_falls : (places : List ℕ) → AreAmong (assigned asked t) places → most_of (claimed all (assigned asked t)) places asked < most_of all places asked
  unfolding most_of
  most_falls places there =
      let some = some_want asked asks in
      least_falls (times (claimed all (assigned asked t)) places) (times all places) (wants asked) some.0 some.1
      (each_weaker (IsWanted asked) _ (wants asked) (claim_falls all asked t places chosen there) (each_wanted asked))

  together_falls : most_together (claimed all (assigned asked t)) asked < most_together all asked
  together_falls =
      rw ((alone all (assigned asked t)).count)
      (most_falls (range_with_len 0 (length all)) (λ x here. among_range 0 (length all) x.provider (omega arith) (omega (arith, provider_low (slots_of asked) t (length all) chosen.list x here))))

  by_root_falls : most_by_root (claimed all (assigned asked t)) asked < most_by_root all asked
  unfolding most_by_root hosts_all
  by_root_falls =
      let xs = assigned asked t in
      let s = stands all asked t chosen.list chosen.candidate in
      let there : AreAmong xs (hosts_of all s.root) =
      λ x here. among_hosts all s.root x.provider (provider_low (slots_of asked) t (length all) chosen.list x here) (among_all (λ x. is_available_at all x.provider s.root) xs x s.hosted.hosts here) in
      let roots = range_with_len 0 (length all) in
      let fewer = sum_fewer (most_at (claimed all xs) asked) (fits_at (claimed all xs) asked) (fits_at all asked) (fits_narrow all asked xs) roots in
      let root : Among (filter (fits_at all asked) roots) s.root =
      among_filter (fits_at all asked) roots s.root (among_range 0 (length all) s.root (omega arith) (omega (arith, s.low))) (fits_from all asked t s.root chosen s.hosted.takes s.available) in
      let falls =
      sum_falls (most_at (claimed all xs) asked) (most_at all asked) (λ r. rw (hosts_kept all xs r) (most_less (hosts_of all r))) (filter (fits_at all asked) roots) s.root root
      (rw (hosts_kept all xs s.root) (most_falls (hosts_of all s.root) there)) in
      rw ((alone all xs).count) (omega (arith, fewer, falls))

  bound_falls : most_placed (claimed all (assigned asked t)) asked < most_placed all asked
  bound_falls = omega (arith, together_falls, by_root_falls)

-- ---- the laws

pub none_is_longer : NoneIsLonger
none_is_longer all asked [] asks made = omega arith
none_is_longer all asked (t ∷ ts) asks (list, candidate, more) =
    let later = none_is_longer (claimed all (assigned asked t)) asked ts asks more in
    omega (arith, bound_falls asked asks all t (record { list = list; candidate = candidate }), later)

placed_each : (n : ℕ) (all : List Provider) (asked : Asked) (ls : List (List ℕ)) → candidates all asked ≡ ls → ArePlaced all asked (placements n all asked)
placed_each n all asked [] e = rw (placed_none n all asked e) tt
placed_each zero all asked (t ∷ ts) e = rw (placed_over all asked) tt
placed_each (suc n) all asked (t ∷ ts) e =
    let now = claimed all (assigned asked t) in
    let chosen = first_chosen all asked t ts e in
    rw (placed_first n all asked t ts e) (chosen.list, chosen.candidate, placed_each n now asked (candidates now asked) refl)

pub fills_within : FillsWithin
unfolding filled
fills_within None all asked asks = none_is_longer all asked (placements (units_left all) all asked) asks (placed_each (units_left all) all asked (candidates all asked) refl)
fills_within (Some n) all asked asks = none_is_longer all asked (placements n all asked) asks (placed_each n all asked (candidates all asked) refl)
