-- How often there is room for a sum.
use Rattle.std.proofs.Common.{◌≡◌, ◌∙◌, ◌<◌, ◌≤◌, ◌+◌, ◌*◌, ◌-◌, ◌/◌, ◌^◌, ◌&&◌, ◌⊎◌, ℕ, zero, suc, Bool, true, false, List, min, nat_le, nat_lt, Option, None, Some, refl, sym, ap, ap₂, arith, inl, inr, option_map, unwrap_or}
use Rattle.std.proofs.lemmas.Bool.{and_from, and_left, and_right, cases_lt, false_from_ne_true, le-leb, le-ltb, leb-true, lt-leb, lt-ltb}
use Rattle.std.proofs.lemmas.Nat.{le-div}
use Rattle.std.proofs.Math.Nat.{div-mul-le_self, mul-le-mul_right}
use Rattle.ac_base.specs.Quantities.{InventoryNumbers, capacity}
use Rattle.ac_cloud.specs.Amounts.{with_amounts}
use Rattle.ac_cloud.specs.World.{Provider, UsedInventory, entry_in, provider_at}
use Rattle.ac_cloud.proofs.Amounts.{entries}
use Rattle.ac_rules.specs.Together.{has_room, holds}
use Rattle.ac_fill.specs.Shown.{has_room_beside}

-- ---- one inventory

-- room for one more sum behind k of them
abbrev has_more : InventoryNumbers → ℕ → ℕ → ℕ → Bool
has_more i used sum k = has_room (Some i) (used + k * sum) sum

-- none, where the sum is above `max_unit`, or more is used than there is
pub room_never : (i : InventoryNumbers) (used sum k : ℕ) → (i.max_unit < sum) ⊎ (capacity i < used) → has_more i used sum k ≡ nat_lt k 0
room_never i used sum k (inl above) = and_left (nat_le sum i.max_unit) (nat_le (used + k * sum + sum) (capacity i)) (lt-leb sum i.max_unit above) ∙ sym (le-ltb k 0 (omega arith))
room_never i used sum k (inr over) =
    and_right (nat_le sum i.max_unit) (nat_le (used + k * sum + sum) (capacity i)) (lt-leb (used + k * sum + sum) (capacity i) (omega (arith, over))) ∙ sym (le-ltb k 0 (omega arith))

-- always, where nothing is asked
pub room_always : (i : InventoryNumbers) (used sum k : ℕ) → sum ≡ 0 → used ≤ capacity i → k < 4294967295 → has_more i used sum k ≡ nat_lt k 4294967295
room_always i used zero k none fits below =
    and_from _ _ (le-leb zero i.max_unit (omega arith)) (le-leb (used + k * zero + zero) (capacity i) (omega (arith, fits))) ∙ sym (lt-ltb k 4294967295 below)
room_always i used (suc sum) k none fits below = absurd (omega (arith, none))

-- as often as the sum is in what is left
pub room_often : (i : InventoryNumbers) (used sum k : ℕ) → 0 < sum → sum ≤ i.max_unit → used ≤ capacity i → k < 4294967295
    → has_more i used sum k ≡ nat_lt k (min ((capacity i - used) / sum) 4294967295)
room_often i used sum k some most fits below =
    let left = capacity i - used in
    elim (cases_lt k (left / sum)) [
      | inl more ↦
          let next : k + 1 ≤ left / sum = omega (arith, more) in
          let product : (k + 1) * sum ≤ left / sum * sum = mul-le-mul_right sum next in
          let whole = div-mul-le_self left sum in
          and_from _ _ (le-leb sum i.max_unit most) (le-leb (used + k * sum + sum) (capacity i) (omega (arith, product, whole, fits)))
          ∙ sym (lt-ltb k (min (left / sum) 4294967295) (omega (arith, more, below)))
      | inr past ↦
          and_right (nat_le sum i.max_unit) (nat_le (used + k * sum + sum) (capacity i)) (false_from_ne_true (nat_le (used + k * sum + sum) (capacity i)) (λ room.
          let one = leb-true (used + k * sum + sum) (capacity i) room in
          let more : k + 1 ≤ left / sum = le-div (k + 1) left sum some (omega (arith, one)) in absurd (omega (arith, more, past))))
          ∙ sym (le-ltb k (min (left / sum) 4294967295) (omega (arith, past)))
    ]

-- so often it fits in 64 bits
pub fits_always : (used sum n room : ℕ) → sum ≡ 0 → used ≤ room → room ≤ 2147483647000000 → used + n * sum < 2 ^ 64
fits_always used zero n room none fits small = omega (arith, fits, small)
fits_always used (suc sum) n room none fits small = absurd (omega (arith, none))

pub fits_often : (used sum n room : ℕ) → used ≤ room → room ≤ 2147483647000000 → n ≤ min ((room - used) / sum) 4294967295 → used + n * sum < 2 ^ 64
fits_often used sum n room fits small often =
    let left = room - used in
    let within : n ≤ left / sum = omega (arith, often) in
    let product : n * sum ≤ left / sum * sum = mul-le-mul_right sum within in
    let whole = div-mul-le_self left sum in
    omega (arith, product, whole, fits, small)

-- ---- one class of a provider

-- beside what is taken, with what is used
pub room_there : (o : Option InventoryNumbers) (i : InventoryNumbers) (used taken total sum k : ℕ) (b : Bool) → Some i ≡ o → total ≡ used + taken
    → has_more i total sum k ≡ b → has_room o (used + (taken + k * sum)) sum ≡ b
room_there o i used taken total sum k b there is room =
    let same : used + (taken + k * sum) ≡ total + k * sum = omega (arith, is) in
    ap₂ (λ (p : Option InventoryNumbers) (u : ℕ). has_room p u sum) (sym there) same ∙ room

pub room_nowhere : (o : Option InventoryNumbers) (used sum k : ℕ) → None ≡ o → has_room o used sum ≡ nat_lt k 0
room_nowhere o used sum k none = ap (λ (p : Option InventoryNumbers). has_room p used sum) (sym none) ∙ sym (le-ltb k 0 (omega arith))

-- where more is used of an inventory
more_used : (o : Option UsedInventory) (more sum : ℕ)
    → has_room (option_map (λ (h : UsedInventory). h.inventory) (option_map (λ (h : UsedInventory). record { inventory = h.inventory; used = h.used + more }) o))
    (unwrap_or (option_map (λ (h : UsedInventory). h.used) (option_map (λ (h : UsedInventory). record { inventory = h.inventory; used = h.used + more }) o)) 0) sum
    ≡ has_room (option_map (λ (h : UsedInventory). h.inventory) o) (unwrap_or (option_map (λ (h : UsedInventory). h.used) o) 0 + more) sum
more_used None more sum = refl
more_used (Some h) more sum = refl

pub holds_beside : (all : List Provider) (more : ℕ → List ℕ → ℕ) (ix sum : ℕ) (class : List ℕ)
    → holds (provider_at (with_amounts (λ ix class had. had.used + more ix class) all) ix) class sum ≡ has_room_beside (provider_at all ix) class (more ix class) sum
holds_beside all more ix sum class =
    rw (entries (λ ix class had. had.used + more ix class) all ix class) (more_used (entry_in (provider_at all ix) class) (more ix class) sum)

-- ---- the least of several

least_both : (k a b : ℕ) → nat_lt k (min a b) ≡ (nat_lt k a && nat_lt k b)
least_both k a b = elim (cases_lt k a) [
  | inr past ↦ le-ltb k (min a b) (omega (arith, past)) ∙ sym (and_left (nat_lt k a) (nat_lt k b) (le-ltb k a past))
  | inl first ↦ elim (cases_lt k b) [
    | inr past ↦ le-ltb k (min a b) (omega (arith, past)) ∙ sym (and_right (nat_lt k a) (nat_lt k b) (le-ltb k b past))
    | inl second ↦ lt-ltb k (min a b) (omega (arith, first, second)) ∙ sym (and_from _ _ (lt-ltb k a first) (lt-ltb k b second))
  ]
]

regroup : (x y z whole : Bool) → (x && (y && z)) ≡ whole → ((x && y) && z) ≡ whole
regroup true y z whole is = is
regroup false y z whole is = is

-- before the first test, behind one more, and behind the last
pub least_start : (k : ℕ) (rest : Bool) → k < 4294967295 → (nat_lt k 4294967295 && rest) ≡ rest
least_start k rest below = ap (λ (b : Bool). b && rest) (lt-ltb k 4294967295 below)

pub least_more : (k a b : ℕ) (here rest whole : Bool) → here ≡ nat_lt k b → (nat_lt k a && (here && rest)) ≡ whole → (nat_lt k (min a b) && rest) ≡ whole
least_more k a b here rest whole is so =
    ap (λ (t : Bool). t && rest) (least_both k a b) ∙ regroup (nat_lt k a) (nat_lt k b) rest whole (ap (λ (t : Bool). nat_lt k a && (t && rest)) (sym is) ∙ so)

pub least_end : (t whole : Bool) → (t && true) ≡ whole → whole ≡ t
least_end true whole is = sym is
least_end false whole is = sym is

-- a product that isn't 0
pub first_factor : (n s : ℕ) → 0 < n * s → 0 < n
first_factor zero s some = absurd (omega (arith, some))
first_factor (suc n) s some = omega arith

pub second_factor : (n s : ℕ) → 0 < n * s → 0 < s
second_factor n zero some = absurd (omega (arith, some))
second_factor n (suc s) some = omega arith
