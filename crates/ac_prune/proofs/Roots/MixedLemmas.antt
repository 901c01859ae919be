-- Slots that ask one of two amounts weigh no more on a provider than what it has left can bear.
use Rattle.std.proofs.Common.{◌≡◌, ℕ, ◌+◌, ◌*◌, ◌-◌, ◌/◌, ◌%◌, ◌<◌, ◌≤◌, Bool, List, [], ◌∷◌, inl, inr, length, sym, ap, subst, arith, nat_le}
use Rattle.std.specs.Prelude.{◌==◌, if◌then◌else◌}
use Rattle.std.proofs.lemmas.Bool.{cases_Bool}
use Rattle.std.proofs.Common.{rules}
use Rattle.std.proofs.Math.Nat.{le-div_iff_mul-le, lt-div-mul-add, div-add-mod, add-mul-div_left, mul-le-mul_left, div-le_self}
use Rattle.ac_base.specs.Names.{class_bytes}
use Rattle.ac_cloud.specs.World.{Provider}
use Rattle.ac_query.specs.Asked.{Asked}
use Rattle.ac_rules.specs.Placed.{Placed, placed}
use Rattle.ac_rules.specs.Together.{amount_of}
use Rattle.ac_prune.specs.Ahead.{load_in, load_of, later, left_on, Bears}
use Rattle.ac_prune.specs.Left.{wanted}
use Rattle.ac_prune.specs.Left.Accounts.{providers_in, asked_in}
use Rattle.ac_prune.specs.Loads.{AreLimited, MayHost, pairs_of}
use Rattle.ac_prune.specs.Loads.Mixed.{mixed_room, mixed_weight, AreMixed}
use Rattle.ac_prune.specs.declared.hosts.column.Column.{Column}
use Rattle.ac_prune.proofs.Paths.BearLemmas.{left_bears}
use Rattle.ac_prune.proofs.Roots.RootLemmas.{asks_in, column_left, weighed_keeps}

-- items of two kinds, each with room for a multiple of its weight
two_loads : {X : Type 0} (box mid big amount : X → ℕ) (a b : ℕ) (xs : List X) (p : ℕ) → ((x : X) → mid x * a + big x * b ≤ amount x)
    → load_in box mid xs p * a + load_in box big xs p * b ≤ load_in box amount xs p
two_loads box mid big amount a b [] p h = omega arith
two_loads box mid big amount a b (x ∷ xs) p h = let here = h x in let more = two_loads box mid big amount a b xs p h in elim (cases_Bool (box x == p)) [ inl e ↦ rw e (omega arith) | inr e ↦ rw e (omega arith) ]

-- what they weigh together
both_loads : {X : Type 0} (box mid big weight : X → ℕ) (k : ℕ) (xs : List X) (p : ℕ) → ((x : X) → weight x ≡ mid x + big x * k)
    → load_in box weight xs p ≡ load_in box mid xs p + load_in box big xs p * k
both_loads box mid big weight k [] p h = omega arith
both_loads box mid big weight k (x ∷ xs) p h = let here = h x in let more = both_loads box mid big weight k xs p h in elim (cases_Bool (box x == p)) [ inl e ↦ rw e (omega arith) | inr e ↦ rw e (omega arith) ]

-- so many of the lesser amount and of the greater stand beside each other
stand_beside : (a b k left i j : ℕ) → 0 < a → 0 < b → b ≤ k * a → i * a + j * b ≤ left → i + j * k ≤ mixed_room a b k left
stand_beside a b k left i j some large reach fit =
    let few : j ≤ left / b = (le-div_iff_mul-le large).1 (omega (arith, fit)) in
    let d = left / b - j in
    let parts : left / b ≡ j + d = omega (arith, few) in
    let whole = div-add-mod left b in
    let scaled : d * b ≤ d * (k * a) = mul-le-mul_left d reach in
    let rest : i * a ≤ left % b + a * (d * k) = omega (arith, fit, whole, ap (λ (n : ℕ). b * n) parts, scaled) in
    let pieces : i ≤ left % b / a + d * k = subst (λ (n : ℕ). i ≤ n) (add-mul-div_left (left % b) (d * k) some) ((le-div_iff_mul-le some).1 rest) in
    omega (arith, pieces, ap (λ (n : ℕ). n * k) parts)

module _ (a b k : ℕ) where
  -- what asks the lesser amount alone, and what asks the greater
  abbrev mid : ℕ → ℕ
  mid n = if nat_le b n then 0 else (if nat_le a n then 1 else 0)

  abbrev big : ℕ → ℕ
  big n = if nat_le b n then 1 else 0

  split : (n : ℕ) → mixed_weight a b k n ≡ mid n + big n * k
  split n = search rules

  asked : (n : ℕ) → mid n * a + big n * b ≤ n
  asked n = search rules

  pub weight_less : (n m : ℕ) → 0 < k → n ≤ m → mixed_weight a b k n ≤ mixed_weight a b k m
  weight_less n m some less = search rules

  pub mixed_bear : (all : List Provider) (asks : Asked) (q : List ℕ) (c : List ℕ) → 0 < a → 0 < b → b ≤ k * a
      → Bears all asks q (λ s. mixed_weight a b k (amount_of s.needs c)) (λ p. mixed_room a b k (left_on all asks q c p))
  mixed_bear all asks q c some large reach v o p =
      let ys = placed (later asks q) v in
      let box = λ (x : Placed). x.provider in
      let amount = λ (x : Placed). amount_of x.slot.needs c in
      let left = left_bears all asks q c v o p in
      let two = two_loads box (λ x. mid (amount x)) (λ x. big (amount x)) amount a b ys p (λ x. asked (amount x)) in
      let is = both_loads box (λ x. mid (amount x)) (λ x. big (amount x)) (λ x. mixed_weight a b k (amount x)) k ys p (λ x. split (amount x)) in
      subst (λ (n : ℕ). n ≤ mixed_room a b k (left_on all asks q c p)) (sym is)
      (stand_beside a b k (left_on all asks q c p) (load_in box (λ x. mid (amount x)) ys p) (load_in box (λ x. big (amount x)) ys p) some large reach (omega (arith, two, left)))

  pub mixed_keep : (column : Column) (old new : List Bool) (mixed : List ℕ) (most : ℕ) → 0 < a → 0 < b → b ≤ k * a → AreMixed column.rooms.items a b k mixed
      → most ≤ load_of (λ w. mixed_weight a b k (wanted w column.number)) (pairs_of column.ledger.now.asks.items)
      → MayHost column.ledger.now old → length new ≡ length old → AreLimited (providers_in column.ledger.now) mixed most old new → MayHost column.ledger.now new
  mixed_keep column old new mixed most some large reach are less was count is =
      let l = column.ledger.now in
      let c = class_bytes column.class.now in
      weighed_keeps (providers_in l) (asked_in l) old new mixed most (λ s. mixed_weight a b k (amount_of s.needs c)) (λ p. mixed_room a b k (left_on (providers_in l) (asked_in l) [] c p))
      (mixed_bear (providers_in l) (asked_in l) [] c some large reach)
      (λ p h. omega (arith, ap (λ (n : ℕ). mixed_room a b k n) (column_left column p h), are p (omega (arith, h, column.as_many)))) (omega (arith, asks_in l c (mixed_weight a b k), rw column.numbered at less)) was count is

-- ---- Numbers that stay within 64 bits

pub times_reach : (a b : ℕ) → 0 < a → 0 < b → b ≤ ((b - 1) / a + 1) * a
times_reach a b some large = let h = lt-div-mul-add {a = b - 1} {b = a} some in omega (arith, h, large)

pub times_few : (a b : ℕ) → 0 < b → (b - 1) / a + 1 ≤ b
times_few a b large = omega (arith, div-le_self (b - 1) a, large)

pub whole_within : (b k left : ℕ) → k ≤ b → left / b * k ≤ left / b * b
whole_within b k left few = mul-le-mul_left (left / b) few
