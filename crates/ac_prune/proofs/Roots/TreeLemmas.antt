-- Choices by tree, and the trees to which a front is bound.
use Rattle.std.proofs.Common.{◌≡◌, ◌∙◌, ℕ, ◌<◌, ◌≤◌, suc, Bool, true, false, ◌||◌, List, [], ◌∷◌, ◌++◌, inl, inr, length, map, refl, sym, ap, subst, arith, get_or}
use Rattle.std.specs.Prelude.{◌==◌}
use Rattle.std.specs.List.{list_all, list_any, range_with_len, Contains, AllByRecursion as Each}
pub use Rattle.std.proofs.lemmas.Bool.{or_left, or_right}
use Rattle.std.proofs.lemmas.Bool.{cases_Bool, cases_eq, and_parts, eq-eqb, ne_eqb, false≢true}
use Rattle.std.proofs.lemmas.List.Folds.{list_any-append, list_any_at}
use Rattle.ac_cloud.specs.World.{Provider, is_available_at, anchors_of}
use Rattle.ac_cloud.specs.Cloud.CloudWorld.{providers_of}
use Rattle.ac_cloud.specs.declared.cloud.Cloud.{Cloud}
use Rattle.ac_cloud.proofs.Places.CloudFacts.{size}
use Rattle.ac_prune.specs.Trees.Keys.{key_of, is_there, IsUnder}
use Rattle.ac_rules.proofs.Elements.{Among, among_filter}
use Rattle.ac_rules.proofs.Lists.ListLemmas.{among_range}
use Rattle.std.proofs.Common.{rules}

-- ---- Numbers that are there

pub there_at : (xs : List ℕ) (x : ℕ) → is_there xs x ≡ true → Contains xs x
there_at [] x h = absurd (false≢true h)
there_at (y ∷ ys) x h = elim (cases_eq y x) [
  | inl e ↦ (0, omega arith, e)
  | inr e ↦ let other = ne_eqb y x e in let m = there_at ys x (rw other at h) in (suc m.0, omega (arith, m.1), m.2)
]

pub at_there : (xs : List ℕ) (x : ℕ) → Contains xs x → is_there xs x ≡ true
at_there xs x m = list_any_at (λ y. y == x) xs m.0 x m.1 (eq-eqb (get_or xs m.0 x) x m.2)

pub among_there : (xs : List ℕ) (x : ℕ) → Among xs x → is_there xs x ≡ true
among_there [] x h = absurd h
among_there (y ∷ xs) x h = elim h [
  | inl e ↦ let on = eq-eqb y x e in rw on refl
  | inr m ↦ let more = among_there xs x m in elim (cases_Bool (y == x)) [ inl t ↦ rw t refl | inr t ↦ rw (t, more) refl ]
]

-- a test that all pass
pub all_there : (f : ℕ → Bool) (xs : List ℕ) (x : ℕ) → list_all f xs ≡ true → is_there xs x ≡ true → f x ≡ true
all_there f [] x h m = absurd (false≢true m)
all_there f (y ∷ xs) x h m =
    let both = and_parts (f y) (list_all f xs) h in
    elim (cases_eq y x) [ inl e ↦ ap f (sym e) ∙ both.0 | inr e ↦ let other = ne_eqb y x e in all_there f xs x both.1 (rw other at m) ]

pub each_there : (P : ℕ → Type 0) (xs : List ℕ) (x : ℕ) → Each P xs → is_there xs x ≡ true → P x
each_there P [] x h m = absurd (false≢true m)
each_there P (y ∷ xs) x h m = elim (cases_eq y x) [ inl e ↦ subst P e h.0 | inr e ↦ let other = ne_eqb y x e in each_there P xs x h.1 (rw other at m) ]

-- a list in which some number is isn't empty
pub some_there : (xs : List ℕ) (x : ℕ) → is_there xs x ≡ true → 0 < length xs
some_there [] x m = absurd (false≢true m)
some_there (y ∷ xs) x m = omega arith

-- a test that some number passes
pub any_found : (f : ℕ → Bool) (xs : List ℕ) → list_any f xs ≡ true → (x : ℕ) × (is_there xs x ≡ true) × (f x ≡ true)
any_found f [] h = absurd (false≢true h)
any_found f (x ∷ xs) h = elim (cases_Bool (f x)) [
  | inl e ↦ let on = eq-eqb x x refl in (x, or_left (x == x) (is_there xs x) on, e)
  | inr e ↦ let more = any_found f xs (rw e at h) in (more.0, or_right (x == more.0) (is_there xs more.0) more.1, more.2)
]

pub any_there : (f : ℕ → Bool) (xs : List ℕ) (x : ℕ) → is_there xs x ≡ true → f x ≡ true → list_any f xs ≡ true
any_there f xs x m e = let at = there_at xs x m in list_any_at f xs at.0 x at.1 (ap f at.2 ∙ e)

pub there_new : (xs ys : List ℕ) (x : ℕ) → is_there ys x ≡ true → is_there (xs ++ ys) x ≡ true
there_new xs ys x h = list_any-append (λ y. y == x) xs ys ∙ or_right _ _ h

pub there_old : (xs ys : List ℕ) (x : ℕ) → is_there xs x ≡ true → is_there (xs ++ ys) x ≡ true
there_old xs ys x h = list_any-append (λ y. y == x) xs ys ∙ or_left _ _ h

pub there_map : (f : ℕ → ℕ) (xs : List ℕ) (x y : ℕ) → is_there xs x ≡ true → y ≡ f x → is_there (map f xs) y ≡ true
there_map f [] x y h e = absurd (false≢true h)
there_map f (z ∷ xs) x y h e = elim (cases_eq z x) [
  | inl is ↦ let on = eq-eqb (f z) y (ap f is ∙ sym e) in rw on refl
  | inr differs ↦ let other = ne_eqb z x differs in or_right (f z == y) (is_there (map f xs) y) (there_map f xs x y (rw other at h) e)
]

pub or_none : (b : Bool) → (b || false) ≡ true → b ≡ true
or_none true h = refl
or_none false h = absurd (false≢true h)

-- more keys
pub under_more : (xs ys : List ℕ) (grove tree place : ℕ) → ((x : ℕ) → is_there xs x ≡ true → is_there ys x ≡ true) → IsUnder xs grove tree place → IsUnder ys grove tree place
under_more xs ys grove tree place more h = search rules

-- a place that is put under some numbers
pub under_put : (keys numbers : List ℕ) (grove tree place : ℕ) → is_there numbers tree || is_there numbers grove ≡ true → IsUnder (keys ++ map (λ n. key_of n place) numbers) grove tree place
under_put keys numbers grove tree place h =
    let put : (n : ℕ) → is_there numbers n ≡ true → is_there (keys ++ map (λ m. key_of m place) numbers) (key_of n place) ≡ true = λ n m. there_new keys _ _ (there_map (λ m. key_of m place) numbers n (key_of n place) m refl) in
    elim (cases_Bool (is_there numbers tree)) [ inl e ↦ or_left _ _ (put tree e) | inr e ↦ or_right _ _ (put grove (rw e at h)) ]

-- ---- The trees to which a front is bound

-- where a provider is available
pub range_there : (n r : ℕ) → r < n → is_there (range_with_len 0 n) r ≡ true
range_there n r h = among_there (range_with_len 0 n) r (among_range 0 n r (omega arith) (omega (arith, h)))

pub anchor_there : (all : List Provider) (p r : ℕ) → r < length all → is_available_at all p r ≡ true → is_there (anchors_of all p) r ≡ true
anchor_there all p r h here = search (rules, among_there, among_filter, among_range)

-- a cloud has few providers
pub few_providers : (cloud : Cloud) → length (providers_of cloud) ≤ 65536
few_providers cloud = omega (arith, size cloud, cloud.ids.few)
