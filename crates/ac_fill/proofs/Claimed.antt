-- What a claim leaves of what providers have, and how often they have what is wanted.
use Rattle.std.proofs.Common.{◌≡◌, ◌∙◌, ◌<◌, ◌≤◌, ◌+◌, ◌-◌, ◌/◌, ◌&&◌, ℕ, suc, Bool, true, not, List, [], ◌∷◌, length, Option, None, Some, refl, sym, ap, ap₂, subst, arith, inl, inr, nat_le, option_map, unwrap_or, bytes_eq, is_none, is_some}
use Rattle.std.specs.List.{list_all, list_any, sum_by, filter, range_with_len}
use Rattle.std.proofs.Math.Path.{fun_ext}
use Rattle.std.proofs.lemmas.Bool.{and_parts, cases_Bool, cases_lt, eq-eqb, false≢true}
use Rattle.std.proofs.lemmas.Bool.Decides.{nat_tests}
use Rattle.std.proofs.lemmas.List.Elements.{All-head, All-tail}
use Rattle.std.proofs.lemmas.List.Sums.{sum_by-cons, sum_by-le-sum_by}
use Rattle.std.proofs.lemmas.Nat.{le-div}
use Rattle.std.proofs.lemmas.Slice.Eq.{bytes_eq-Decides}
use Rattle.std.proofs.Math.Nat.{div-mul-le_self, suc-mul}
use Rattle.ac_cloud.specs.World.{Provider, UsedInventory, entry_in, id_at, is_root, left_of, provider_at, used_of}
use Rattle.ac_cloud.specs.Laws.{DifferInAmounts}
use Rattle.ac_cloud.proofs.Amounts.{amounts_again, amounts_kept, amounts_same, amounts_same_found, entries}
use Rattle.ac_prune.specs.Ahead.{hosts_of}
use Rattle.ac_query.specs.Asked.{Asked, Slot}
use Rattle.ac_rules.specs.Claims.{claimed, is_in_use, released, uses_sums}
use Rattle.ac_rules.specs.Lists.{IsListBelow}
use Rattle.ac_rules.specs.Own.{units_fit, traits_fit, aggregates_fit, tree_fits, fits}
use Rattle.ac_rules.specs.Placed.{Placed, assigned, placed}
use Rattle.ac_rules.specs.Together.{amount_of, has_room, sum_on, sums, takes_root}
use Rattle.ac_rules.specs.Judge.{is_candidate}
use Rattle.ac_rules.proofs.Elements.{Among}
use Rattle.ac_rules.proofs.EachSlot.ClaimLaws as kept
use Rattle.ac_rules.proofs.EachSlot.FrontLemmas.{candidate_opens}
use Rattle.ac_rules.proofs.EachSlot.FullLemmas.{asked_from, full_from}
use Rattle.ac_fill.specs.Bounds.{Want, units_of, times_at, times}
use Rattle.ac_fill.specs.Laws.{ClaimUndoes, ClaimsCommute, IsWithin, NeverOverbooks}
use Rattle.std.proofs.lemmas.Grind.{common_steps}

abbrev pub Need : Type 0
Need = List ℕ × ℕ

-- ---- sums

pub sum_falls : (f g : ℕ → ℕ) → ((i : ℕ) → f i ≤ g i) → (xs : List ℕ) (p : ℕ) → Among xs p → f p < g p → sum_by f xs < sum_by g xs
sum_falls f g less [] p here falls = absurd here
sum_falls f g less (x ∷ xs) p (inl is) falls =
    omega (arith, sum_by-cons f x xs, sum_by-cons g x xs, subst (λ (i : ℕ). f i < g i) (sym is) falls, sum_by-le-sum_by f g xs less)
sum_falls f g less (x ∷ xs) p (inr later) falls =
    omega (arith, sum_by-cons f x xs, sum_by-cons g x xs, less x, sum_falls f g less xs p later falls)

-- a sum over fewer elements
pub sum_fewer : (f : ℕ → ℕ) (a b : ℕ → Bool) → ((i : ℕ) → a i ≡ true → b i ≡ true) → (xs : List ℕ) → sum_by f (filter a xs) ≤ sum_by f (filter b xs)
sum_fewer f a b within [] = omega arith
sum_fewer f a b within (x ∷ xs) =
    let more = sum_fewer f a b within xs in
    elim (cases_Bool (a x)) [
      | inl here ↦ rw (here, within x here) (omega (arith, more, sum_by-cons f x (filter a xs), sum_by-cons f x (filter b xs)))
      | inr out ↦ rw out (elim (cases_Bool (b x)) [ inl here ↦ rw here (omega (arith, more, sum_by-cons f x (filter b xs))) | inr past ↦ rw past more ])
    ]

-- ---- parts of an amount

parts_less : (u s a : ℕ) → 0 < a → (u - s) / a ≤ u / a
parts_less u s a some =
    le-div ((u - s) / a) u a some (omega (arith, div-mul-le_self (u - s) a))

parts_fall : (u s a : ℕ) → 0 < a → a ≤ s → s ≤ u → (u - s) / a < u / a
parts_fall u s a some much room =
    let q = (u - s) / a in
    le-div (suc q) u a some (rw (suc-mul q a) (omega (arith, div-mul-le_self (u - s) a, much, room)))

-- what is left of an inventory beside what is used of it
pub left_units : (o : Option UsedInventory) → left_of (option_map (λ had. had.inventory) o) (unwrap_or (option_map (λ had. had.used) o) 0) ≡ units_of o
left_units o = grind (arith, common_steps)

-- ---- a claim

-- what is left of an inventory after a claim
left_after : (o : Option UsedInventory) (sum : ℕ) → units_of (option_map (λ (had : UsedInventory). record { inventory = had.inventory; used = had.used + sum }) o) ≡ units_of o - sum
left_after o sum = grind (arith, common_steps)

module _ (all : List Provider) (xs : List Placed) where
  left_claimed : (ix : ℕ) (class : List ℕ) → units_of (entry_in (provider_at (claimed all xs) ix) class) ≡ units_of (entry_in (provider_at all ix) class) - sum_on xs ix class
  unfolding claimed
  left_claimed ix class =
      ap units_of (entries (λ ix class had. had.used + sum_on xs ix class) all ix class) ∙ left_after (entry_in (provider_at all ix) class) (sum_on xs ix class)

  fits_claimed : (x : Placed) → fits (claimed all xs) x ≡ fits all x
  unfolding claimed fits
  fits_claimed x =
      let amount : ℕ → List ℕ → UsedInventory → ℕ = λ ix class had. had.used + sum_on xs ix class in
      rw (kept.units amount all x, kept.traits amount all x, kept.aggregates amount all x, kept.trees amount all x) refl

  times_at_less : (want : Want) → 0 < want.need.1 → (ix : ℕ) → times_at (claimed all xs) want ix ≤ times_at all want ix
  times_at_less want some ix =
      rw (fits_claimed (record { slot = want.slot; provider = ix }), left_claimed ix want.need.0) (elim (cases_Bool (fits all (record { slot = want.slot; provider = ix }))) [
        | inl h ↦ rw h (parts_less (units_of (entry_in (provider_at all ix) want.need.0)) (sum_on xs ix want.need.0) want.need.1 some)
        | inr h ↦ rw h (omega arith)
      ])

  -- no providers have anything more often afterwards
  pub times_less : (places : List ℕ) (want : Want) → 0 < want.need.1 → times (claimed all xs) places want ≤ times all places want
  times_less places want some = sum_by-le-sum_by (times_at (claimed all xs) want) (times_at all want) places (times_at_less want some)

  -- those among which a slot's provider gives it an amount have it less often
  pub times_fall : (places : List ℕ) (want : Want) (ix : ℕ) → 0 < want.need.1 → Among places ix → fits all (record { slot = want.slot; provider = ix }) ≡ true
      → want.need.1 ≤ sum_on xs ix want.need.0 → sum_on xs ix want.need.0 ≤ units_of (entry_in (provider_at all ix) want.need.0)
      → times (claimed all xs) places want < times all places want
  times_fall places want ix some here own much room =
      let falls : times_at (claimed all xs) want ix < times_at all want ix =
      rw (fits_claimed (record { slot = want.slot; provider = ix }), left_claimed ix want.need.0, own) (parts_fall (units_of (entry_in (provider_at all ix) want.need.0)) (sum_on xs ix want.need.0) want.need.1 some much room) in
      sum_falls (times_at (claimed all xs) want) (times_at all want) (times_at_less want some) places ix here falls

  pub alone : DifferInAmounts all (claimed all xs)
  alone = (kept.claims_alone all xs).0

  pub takes_kept : (asked : Asked) (r : ℕ) → takes_root (claimed all xs) asked r ≡ takes_root all asked r
  unfolding takes_root
  takes_kept asked r =
      ap₂ (λ a b. a && b)
      (ap₂ (λ a b. a && b) (ap (is_root (claimed all xs)) (alone.ids r) ∙ ap₂ (λ o m. is_some o && is_none m) (alone.places (id_at all r)) (alone.parents (id_at all r))) (ap (λ names. list_all (λ name. list_any (bytes_eq name) names) asked.root_required) (alone.traits r)))
      (ap (λ names. list_all (λ name. not (list_any (bytes_eq name) names)) asked.root_forbidden) (alone.traits r))

  pub hosts_kept : (r : ℕ) → hosts_of (claimed all xs) r ≡ hosts_of all r
  unfolding hosts_of
  hosts_kept r = ap₂ (λ (test : ℕ → Bool) (n : ℕ). filter test (range_with_len 0 n)) (fun_ext (λ (p : ℕ). alone.available p r)) alone.count

-- ---- what a candidate takes

pub among_all : {X : Type 0} (f : X → Bool) (xs : List X) (x : X) → list_all f xs ≡ true → Among xs x → f x ≡ true
among_all f [] x h here = absurd here
among_all f (y ∷ xs) x h (inl is) = let first : f y ≡ true = (and_parts (f y) (list_all f xs) h).0 in subst (λ z. f z ≡ true) is first
among_all f (y ∷ xs) x h (inr later) = among_all f xs x (and_parts (f y) (list_all f xs) h).1 later

-- each slot has its provider among those of a list
pub slot_placed : (slots : List Slot) (t : List ℕ) (n : ℕ) (slot : Slot) → IsListBelow n (length slots) t → Among slots slot
    → (ix : ℕ) × (ix < n) × Among (placed slots t) (record { slot = slot; provider = ix })
slot_placed [] t n slot list here = absurd here
slot_placed (s ∷ slots) [] n slot list here = let long = list.long in absurd (omega (arith, long))
slot_placed (s ∷ slots) (p ∷ t) n slot list (inl is) = (p, All-head (λ p. p < n) p t list.below, inl (ap (λ (s : Slot). record { slot = s; provider = p }) is))
slot_placed (s ∷ slots) (p ∷ t) n slot list (inr later) =
    let long = list.long in
    let more = slot_placed slots t n slot (record { long = omega (arith, long); below = All-tail (λ p. p < n) p t list.below }) later in
    (more.0, more.1, inr more.2)

-- no slot's provider is past the end
pub provider_low : (slots : List Slot) (t : List ℕ) (n : ℕ) → IsListBelow n (length slots) t → (x : Placed) → Among (placed slots t) x → x.provider < n
provider_low [] t n list x here = absurd here
provider_low (s ∷ slots) [] n list x here = absurd here
provider_low (s ∷ slots) (p ∷ t) n list x (inl is) = subst (λ (y : Placed). y.provider < n) is (All-head (λ p. p < n) p t list.below)
provider_low (s ∷ slots) (p ∷ t) n list x (inr later) =
    let long = list.long in
    provider_low slots t n (record { long = omega (arith, long); below = All-tail (λ p. p < n) p t list.below }) x later

-- a need asks no more than all needs of its class
pub need_amount : (needs : List Need) (need : Need) → Among needs need → need.1 ≤ amount_of needs need.0
need_amount [] need here = absurd here
need_amount (n ∷ needs) need (inl is) =
    let same = (bytes_eq-Decides need.0 need.0).1 refl in
    subst (λ (m : Need). need.1 ≤ amount_of (m ∷ needs) need.0) (sym is) (rw same (omega arith))
need_amount (n ∷ needs) need (inr later) = let more = need_amount needs need later in omega (arith, more)

-- a slot asks no more of its provider than all slots
pub slot_sum : (xs : List Placed) (x : Placed) (class : List ℕ) → Among xs x → amount_of x.slot.needs class ≤ sum_on xs x.provider class
slot_sum [] x class here = absurd here
slot_sum (y ∷ xs) x class (inl is) =
    subst (λ (z : Placed). amount_of x.slot.needs class ≤ sum_on (z ∷ xs) x.provider class) (sym is) (rw (eq-eqb x.provider x.provider refl) (omega arith))
slot_sum (y ∷ xs) x class (inr later) = let more = slot_sum xs x class later in omega (arith, more)

-- an inventory with room for a sum has it left
pub room_left : (o : Option UsedInventory) (sum : ℕ) → has_room (option_map (λ h. h.inventory) o) (unwrap_or (option_map (λ h. h.used) o) 0) sum ≡ true → sum ≤ units_of o
room_left o sum h = grind (arith, common_steps)

pub fits_all : (all : List Provider) (x : Placed) → units_fit all x ≡ true → traits_fit all x ≡ true → aggregates_fit all x ≡ true → tree_fits all x ≡ true → fits all x ≡ true
unfolding fits
fits_all all x units traits aggregates tree = rw (units, traits, aggregates, tree) refl

-- ---- the laws of claims

-- a sum that there is room for leaves what is used within the capacity
within_after : (o : Option UsedInventory) (sum : ℕ) → has_room (option_map (λ h. h.inventory) o) (unwrap_or (option_map (λ h. h.used) o) 0) sum ≡ true
    → IsWithin (option_map (λ (h : UsedInventory). record { inventory = h.inventory; used = h.used + sum }) o)
within_after None sum h = absurd (false≢true h)
within_after (Some had) sum h = grind (arith, nat_tests)

pub never_overbooks : NeverOverbooks
unfolding is_candidate sums claimed
never_overbooks all asked t candidate ix class some =
    let xs = assigned asked t in
    subst IsWithin (sym (entries (λ ix class had. had.used + sum_on xs ix class) all ix class))
    (within_after (entry_in (provider_at all ix) class) (sum_on xs ix class) (full_from all xs xs (candidate_opens all asked xs candidate).sums ix class some))

pub claims_commute : ClaimsCommute
unfolding claimed
claims_commute all xs ys =
    let one : List Placed → ℕ → List ℕ → UsedInventory → ℕ = λ zs ix class had. had.used + sum_on zs ix class in
    amounts_again (one xs) (one ys) all ∙ amounts_same _ _ all (λ ix class had. omega arith) ∙ sym (amounts_again (one ys) (one xs) all)

-- where an inventory is, as much of it is used as all slots ask
in_use_at : (all : List Provider) (xs : List Placed) (ix : ℕ) (class : List ℕ) (had : UsedInventory) → is_in_use all xs ≡ true → entry_in (provider_at all ix) class ≡ Some had
    → had.used - sum_on xs ix class + sum_on xs ix class ≡ had.used
unfolding is_in_use uses_sums
in_use_at all xs ix class had used found = elim (cases_lt 0 (sum_on xs ix class)) [
  | inl some ↦ let enough = rw found at (asked_from (λ p c. nat_le (sum_on xs p c) (used_of (provider_at all p) c)) xs used ix class some) in grind (arith, nat_tests)
  | inr none ↦ omega (arith, none)
]

pub claim_undoes : ClaimUndoes
unfolding claimed released
claim_undoes all xs rise used =
    amounts_again (λ ix class had. had.used - sum_on xs ix class) (λ ix class had. had.used + sum_on xs ix class) all
    ∙ amounts_same_found _ (λ ix class had. had.used) all rise (λ ix class had inside found. in_use_at all xs ix class had used found) ∙ amounts_kept all
