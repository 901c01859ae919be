-- Sums, tested slot by slot, says it of every provider and class.
use Rattle.std.proofs.Common.{inl, inr, ◌≡◌, ℕ, ◌<◌, ◌≤◌, Bool, true, List, [], ◌∷◌, refl, arith}
use Rattle.std.specs.List.{list_all, AllByRecursion}
use Rattle.std.specs.Str.{bytes_eq}
use Rattle.std.proofs.lemmas.Bool.Decides.{nat_tests}
use Rattle.std.proofs.lemmas.Bool.{cases_Bool, and_from, eq-eqb}
use Rattle.std.proofs.lemmas.Slice.Eq.{bytes_eq-Decides}
use Rattle.ac_cloud.specs.World.{Provider, provider_at}
use Rattle.ac_rules.specs.Placed.{Placed}
use Rattle.ac_rules.specs.Together.{amount_of, sum_on, holds, holds_sums, sums}
use Rattle.ac_rules.specs.Laws.{AskAmounts, IsFull, SumsSayFull}

-- a test of each class that needs name holds of a class of which they ask
pub at_class : (f : List ℕ → Bool) (needs : List (List ℕ × ℕ)) (c : List ℕ) → list_all (λ need. f need.0) needs ≡ true → 0 < amount_of needs c → f c ≡ true
at_class f [] c h k = absurd (omega arith)
at_class f (need ∷ needs) c h k = elim (cases_Bool (bytes_eq need.0 c)) [
  | inl e ↦ let same = (bytes_eq-Decides need.0 c).0 e in grind arith
  | inr e ↦ grind (arith, at_class f needs c)
]

-- and of each class of each provider of which slots ask
pub asked_from : (test : ℕ → List ℕ → Bool) (ys : List Placed) → list_all (λ y. list_all (λ need. test y.provider need.0) y.slot.needs) ys ≡ true
    → (p : ℕ) (c : List ℕ) → 0 < sum_on ys p c → test p c ≡ true
asked_from test [] h p c k = absurd (omega arith)
asked_from test (y ∷ ys) h p c k = grind (arith, nat_tests, at_class (test y.provider) y.slot.needs c, asked_from test ys, p)

pub full_from : (all : List Provider) (xs ys : List Placed) → list_all (λ x. holds_sums all xs x) ys ≡ true → (p : ℕ) (c : List ℕ) → 0 < sum_on ys p c
    → holds (provider_at all p) c (sum_on xs p c) ≡ true
unfolding holds_sums
full_from all xs ys h p c k = asked_from (λ p c. holds (provider_at all p) c (sum_on xs p c)) ys h p c k

needs_from : (all : List Provider) (xs : List Placed) (p : ℕ) → IsFull all xs → (needs : List (List ℕ × ℕ)) → AllByRecursion (λ need. 0 < need.1) needs
    → ((c : List ℕ) → amount_of needs c ≤ sum_on xs p c) → list_all (λ need. holds (provider_at all p) need.0 (sum_on xs p need.0)) needs ≡ true
needs_from all xs p full [] some less = refl
needs_from all xs p full (need ∷ needs) some less =
    let here = less need.0 in
    let same = (bytes_eq-Decides need.0 need.0).1 refl in
    let one = some.0 in
    grind (arith, full p need.0, needs_from all xs p full needs some.1 (λ c. let whole = less c in omega arith))

slot_from : (all : List Provider) (xs : List Placed) (x : Placed) → IsFull all xs → AllByRecursion (λ need. 0 < need.1) x.slot.needs
    → ((c : List ℕ) → amount_of x.slot.needs c ≤ sum_on xs x.provider c) → holds_sums all xs x ≡ true
unfolding holds_sums
slot_from all xs x full some less = needs_from all xs x.provider full x.slot.needs some less

slots_from : (all : List Provider) (xs : List Placed) → IsFull all xs → (ys : List Placed) → AskAmounts ys → ((p : ℕ) (c : List ℕ) → sum_on ys p c ≤ sum_on xs p c)
    → list_all (λ x. holds_sums all xs x) ys ≡ true
slots_from all xs full [] some less = refl
slots_from all xs full (y ∷ ys) some less = and_from _ _
    (slot_from all xs y full some.0 (λ c. let whole = less y.provider c in let same = eq-eqb y.provider y.provider refl in let more = rw same at whole in omega arith))
    (slots_from all xs full ys some.1 (λ p c. let whole = less p c in omega arith))

pub sums_say_full : SumsSayFull
unfolding sums
sums_say_full all xs some = (λ h. full_from all xs xs h, λ full. slots_from all xs full xs some (λ p c. omega arith))
