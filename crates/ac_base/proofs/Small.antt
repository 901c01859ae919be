-- Small facts of numbers, of truth values, of options, of results, of texts and of known bytes.
use Rattle.std.proofs.Common.{◌≡◌, ◌≢◌, ◌&&◌, List, sym, option_map, ◌+◌, ◌<◌, ◌≤◌, ℕ, Bool, true, false, Option, Some, None, Result, refl, arith, rules, inl, inr, ◌⊎◌, ◌==◌, ◌||◌, min, not, is_some, subst}
use Rattle.std.proofs.lemmas.Bool.{cases_lt}
use Rattle.std.specs.Cmp.{both_ways}
use Rattle.std.specs.Result.{IfErr, IsErrAnd}
use Rattle.std.specs.Str.{bytes_eq}
use Rattle.std.specs.Io.KnownBytes.{Consumes, Keeps}
use Rattle.std.proofs.lemmas.Slice.Eq.{bytes_eq-Decides}
use Rattle.std.proofs.lemmas.Grind.{common_steps}
use Rattle.std.proofs.lemmas.Bool.{cases_Bool}

pub clash : (b : Bool) → b ≡ false → b ≡ true → ⊥
clash b e f = cc

pub not_false : (b : Bool) → not b ≡ false → b ≡ true
not_false b e = grind (arith, common_steps, cases_Bool)

pub or_again : (b c : Bool) → (b || c) ≡ (b || (b || c))
or_again b c = grind (arith, common_steps, cases_Bool)

pub or_swapped : (a b c : Bool) → (a || (b || c)) ≡ (b || (a || c))
or_swapped a b c = grind (arith, common_steps, cases_Bool)

pub or_grouped : (a b c : Bool) → (a || (b || c)) ≡ ((a || b) || c)
or_grouped a b c = grind (arith, common_steps, cases_Bool)

pub equal : (a b : ℕ) → a ≡ b → (a == b) ≡ true
equal a b e = search (arith, rules)

pub differ : (a b : ℕ) → a ≢ b → (a == b) ≡ false
differ a b ne = search (arith, rules)

pub are_equal : (a b : ℕ) → (a == b) ≡ true → a ≡ b
are_equal a b h = search (arith, rules)

pub min_left : (m n a : ℕ) → m ≤ a → min m n ≤ a
min_left m n a h = omega arith

pub min_right : (m n a : ℕ) → a ≡ n → min m n ≤ a
min_right m n a h = omega arith

pub is_min_left : (m n a : ℕ) → m < n → a ≡ m → a ≡ min m n
is_min_left m n a h e = omega arith

pub is_min_right : (m n a : ℕ) → n ≤ m → a ≡ n → a ≡ min m n
is_min_right m n a h e = omega arith

pub some_or_none : (o : Option ℕ) → ((q : ℕ) × (o ≡ Some q)) ⊎ (o ≡ None)
some_or_none None = inr refl
some_or_none (Some q) = inl (q, refl)

-- what holds of the first places and of one more
pub one_more : (P : ℕ → Type 0) (n : ℕ) → ((b : ℕ) → b < n → P b) → P n → (b : ℕ) → b < n + 1 → P b
one_more P n first last b h = elim (cases_lt b n) [ inl less ↦ first b less | inr e ↦ (let same : n ≡ b = omega (arith, e, h) in subst P same last) ]

pub none_is : (o : Option ℕ) → is_some o ≡ false → o ≡ None
none_is o e = grind (arith, common_steps)

-- texts are equal both ways
pub eq_turned : (a b : List ℕ) → bytes_eq a b ≡ bytes_eq b a
eq_turned a b = both_ways (bytes_eq a b) (bytes_eq b a) (λ e. (bytes_eq-Decides b a).1 (sym ((bytes_eq-Decides a b).0 e))) (λ e. (bytes_eq-Decides a b).1 (sym ((bytes_eq-Decides b a).0 e)))

-- two tests that both pass
pub both : (a b : Bool) → (a && b) ≡ true → (a ≡ true) × (b ≡ true)
both a b h = grind (arith, common_steps, cases_Bool)

-- what is no `Some` maps to `None`
pub none_unless : {X Y : Type 0} (f : X → Y) (o : Option X) → ((x : X) × (o ≡ Some x) → ⊥) → None ≡ option_map f o
none_unless f o never = grind (arith, common_steps)

-- what a `?` hands on, where both errors are of one type
pub handed_on : {T E : Type 0} (r : Result T E) (e : E) (P : E → Type 0) → IsErrAnd r (λ y. y ≡ e) → P e → IfErr r P
handed_on r e a2 h p = grind (arith, common_steps)

-- bytes were taken, and then none
pub consumes_keeps : (a b c : Option (List ℕ)) (xs : List ℕ) → Consumes a b xs → Keeps b c → Consumes a c xs
consumes_keeps a b c xs h k = grind (arith, common_steps)
