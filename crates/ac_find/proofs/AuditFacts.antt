-- What is amiss: of the amounts of an inventory some is admitted exactly where the greatest that the step divides isn't too small; trees are marked at their
-- roots.
use Rattle.std.proofs.Common.{◌≡◌, ◌∙◌, ℕ, zero, suc, ◌+◌, ◌-◌, ◌*◌, ◌/◌, ◌%◌, ◌<◌, ◌≤◌, Bool, true, false, List, length, get_or, inl, inr, refl, sym, ap, arith, div-add-mod', mul-le-mul_right, nat_le, eq-or-lt_of_le, le-div_iff_mul-le}
use Rattle.std.proofs.lemmas.Nat.{mod-mul-add}
use Rattle.std.proofs.lemmas.Bool.{cases_Bool}
use Rattle.std.proofs.lemmas.Bool.Decides.{nat_tests}
use Rattle.std.proofs.lemmas.Bool.{eq-eqb, ne_eqb}
use Rattle.std.proofs.lemmas.Bool.Decides.{eqb_tells}
use Rattle.std.proofs.lemmas.Grind.{common_steps}
use Rattle.std.proofs.lemmas.List.{get_or-set_same, get_or-set_other}
use Rattle.std.proofs.Math.Bool.{or-false, or-true}
use Rattle.std.proofs.Math.ListN.{set}
use Rattle.std.specs.Prelude.{max, min, ◌==◌, ◌&&◌, ◌||◌}
use Rattle.std.specs.List.{list_any, range_with_len}
use Rattle.ac_base.specs.Quantities.{capacity, units}
use Rattle.ac_cloud.specs.World.{Provider, id_at, root_of}
use Rattle.ac_rules.specs.Laws.{AreInOrder}
use Rattle.ac_find.specs.Audit.{admits_some}
use Rattle.ac_find.specs.Laws.{PlacedFits}

-- a number of a range passes the test
pub some_passes : (t : ℕ → Bool) (n from k : ℕ) → from ≤ k → k < from + n → t k ≡ true → list_any t (range_with_len from n) ≡ true
some_passes t zero from k low high pass = absurd (omega arith)
some_passes t (suc n) from k low high pass = elim (eq-or-lt_of_le low) [
  | inl e ↦ rw (e, pass) refl
  | inr above ↦ ap (λ b. t from || b) (some_passes t n (from + 1) k (omega arith) (omega arith) pass) ∙ or_true (t from)
]
  where
    or_true : (b : Bool) → (b || true) ≡ true
    or_true true = refl
    or_true false = refl

-- none does
pub none_passes : (t : ℕ → Bool) (n from : ℕ) → ((k : ℕ) → from ≤ k → k < from + n → t k ≡ false) → list_any t (range_with_len from n) ≡ false
none_passes t zero from none = refl
none_passes t (suc n) from none = rw (none from (omega arith) (omega arith)) (none_passes t n (from + 1) (λ k low high. none k (omega arith) (omega arith)))

-- a multiple of the step up to a bound is no greater than the greatest of them
pub is_greatest : (step most a : ℕ) → 0 < step → a ≤ most → a % step ≡ 0 → a ≤ most - most % step
is_greatest step most a some low divided =
    let whole = div-add-mod' most step in
    let parts = div-add-mod' a step in
    let scaled : a / step * step ≤ most = omega (arith, parts) in
    let steps = (le-div_iff_mul-le some).1 scaled in
    let up : a / step * step ≤ most / step * step = mul-le-mul_right step steps in
    omega (arith, whole, parts, up, divided)

-- and the step divides that one
pub divides_it : (step most : ℕ) → 0 < step → (most - most % step) % step ≡ 0
divides_it step most some =
    let whole = div-add-mod' most step in
    let is : most - most % step ≡ most / step * step + 0 = omega (arith, whole) in
    ap (λ n. n % step) is ∙ mod-mul-add (most / step) step 0 some

-- the test of `units`
abbrev pub admits : ℕ → ℕ → ℕ → ℕ → Bool
admits low high step a = nat_le low a && nat_le a high && (a % step == 0)

pub admits_greatest : (low high step whole : ℕ) → 0 < step
    → nat_le (max low 1) (min whole high - min whole high % step) ≡ list_any (admits low high step) (range_with_len 1 whole)
admits_greatest low high step whole some =
    let most = min whole high in
    let top = most - most % step in
    let divided = divides_it step most some in
    let low_most : most ≤ whole = omega arith in
    let high_most : most ≤ high = omega arith in
    elim (cases_Bool (nat_le (max low 1) top)) [
      | inl is ↦ is ∙ sym (some_passes (admits low high step) whole 1 top (grind (arith, nat_tests, is)) (omega arith) (grind (arith, nat_tests, is, divided)))
      | inr is ↦ is ∙ sym (none_passes (admits low high step) whole 1
          (λ k above below. fails low high step k (λ l h d. let up = is_greatest step most k some (omega arith) d in grind (arith, nat_tests, is, up))))
    ]
  where
    fails : (low high step k : ℕ) → (low ≤ k → k ≤ high → k % step ≡ 0 → ⊥) → admits low high step k ≡ false
    fails low high step k never = elim (cases_Bool (admits low high step k)) [
      | inl is ↦ absurd (grind (arith, nat_tests, is, never))
      | inr is ↦ is
    ]

-- and by a step of 0 none is
pub admits_none : (low high whole : ℕ) → false ≡ list_any (admits low high 0) (range_with_len 1 whole)
admits_none low high whole = sym (none_passes (admits low high 0) whole 1 (λ k above below. elim (cases_Bool (admits low high 0 k)) [
  | inl is ↦ absurd (grind (arith, nat_tests, is))
  | inr is ↦ is
]))

-- an amount that is placed is one that is admitted
pub placed_fits : PlacedFits
unfolding admits_some
placed_fits i used amount some admitted room = some_passes (units i) (capacity i) 1 amount some (grind (arith, nat_tests, room)) admitted

-- ---- Trees

-- places with one id are the same
same_places : (all : List Provider) → AreInOrder all → (p q : ℕ) → p < length all → q < length all → id_at all p ≡ id_at all q → p ≡ q
same_places all order p q k l s = grind (arith, s, order p q, order q p)

-- the root of a provider is marked
pub mark_step : (all : List Provider) → AreInOrder all → (marks : List Bool) (root ix r : ℕ) → length marks ≡ length all → root < length all → id_at all root ≡ root_of all (id_at all ix) → r < length marks
    → get_or (set marks root true) r false ≡ get_or marks r false || (root_of all (id_at all ix) == id_at all r)
mark_step all order marks root ix r long k is low = grind (arith, common_steps, eqb_tells, set, eq-eqb, or-true, get_or-set_same, ne_eqb, same_places, or-false, get_or-set_other)
