-- What holds of each element of a list, and what is among them, by recursion.
use Rattle.std.proofs.Common.{◌≡◌, ◌+◌, ◌≤◌, Bool, true, false, List, [], ◌∷◌, ◌++◌, ◌⊎◌, inl, inr, length, map, refl, sym, ap, ◌∙◌, subst, arith}
use Rattle.std.specs.List.{flat_map, filter, AllByRecursion as Each}
use Rattle.std.proofs.lemmas.Bool.{cases_Bool, false≢true}

abbrev pub Among : {X : Type 0} → List X → X → Type 0
Among [] y = ⊥
Among (x ∷ xs) y = (x ≡ y) ⊎ Among xs y

pub each_append : {X : Type 0} (P : X → Type 0) (xs ys : List X) → Each P xs → Each P ys → Each P (xs ++ ys)
each_append P [] ys h k = k
each_append P (x ∷ xs) ys h k = (h.0, each_append P xs ys h.1 k)

pub each_map : {X Y : Type 0} (P : Y → Type 0) (f : X → Y) (xs : List X) → Each (λ x. P (f x)) xs → Each P (map f xs)
each_map P f [] h = tt
each_map P f (x ∷ xs) h = (h.0, each_map P f xs h.1)

pub each_weaker : {X : Type 0} (P Q : X → Type 0) (xs : List X) → ((x : X) → P x → Q x) → Each P xs → Each Q xs
each_weaker P Q [] f h = tt
each_weaker P Q (x ∷ xs) f h = (f x h.0, each_weaker P Q xs f h.1)

pub each_all : {X : Type 0} (P : X → Type 0) (xs : List X) → ((x : X) → P x) → Each P xs
each_all P [] f = tt
each_all P (x ∷ xs) f = (f x, each_all P xs f)

pub each_both : {X : Type 0} (P Q : X → Type 0) (xs : List X) → Each P xs → Each Q xs → Each (λ x. P x × Q x) xs
each_both P Q [] h k = tt
each_both P Q (x ∷ xs) h k = ((h.0, k.0), each_both P Q xs h.1 k.1)

pub each_among : {X : Type 0} (P : X → Type 0) (xs : List X) (y : X) → Each P xs → Among xs y → P y
each_among P [] y h m = absurd m
each_among P (x ∷ xs) y h m = elim m [ inl e ↦ subst P e h.0 | inr m ↦ each_among P xs y h.1 m ]

pub among_left : {X : Type 0} (xs ys : List X) (y : X) → Among xs y → Among (xs ++ ys) y
among_left [] ys y m = absurd m
among_left (x ∷ xs) ys y m = elim m [ inl e ↦ inl e | inr m ↦ inr (among_left xs ys y m) ]

pub among_right : {X : Type 0} (xs ys : List X) (y : X) → Among ys y → Among (xs ++ ys) y
among_right [] ys y m = m
among_right (x ∷ xs) ys y m = inr (among_right xs ys y m)

pub among_map : {X Y : Type 0} (f : X → Y) (xs : List X) (x : X) → Among xs x → Among (map f xs) (f x)
among_map f [] x m = absurd m
among_map f (y ∷ xs) x m = elim m [ inl e ↦ inl (ap f e) | inr m ↦ inr (among_map f xs x m) ]

pub among_flat_map : {X Y : Type 0} (f : X → List Y) (xs : List X) (x : X) (y : Y) → Among xs x → Among (f x) y → Among (flat_map f xs) y
among_flat_map {X} {Y} f [] x y m k = absurd m
among_flat_map {X} {Y} f (z ∷ xs) x y m k = elim m [
  | inl e ↦ among_left (f z) (flat_map f xs) y (subst (λ (w : X). Among (f w) y) (sym e) k)
  | inr m ↦ among_right (f z) (flat_map f xs) y (among_flat_map f xs x y m k)
]

-- a filter keeps what holds of each, and adds that the test passed
pub each_filter : {X : Type 0} (P : X → Type 0) (test : X → Bool) (xs : List X) → Each P xs → Each (λ x. (test x ≡ true) × P x) (filter test xs)
each_filter {X} P test [] h = tt
each_filter {X} P test (x ∷ xs) h = elim (cases_Bool (test x)) [
  | inl e ↦ rw e ((e, h.0), each_filter P test xs h.1)
  | inr e ↦ rw e (each_filter P test xs h.1)
]

pub among_filter : {X : Type 0} (test : X → Bool) (xs : List X) (y : X) → Among xs y → test y ≡ true → Among (filter test xs) y
among_filter {X} test [] y m h = absurd m
among_filter {X} test (x ∷ xs) y m h = elim (cases_Bool (test x)) [
  | inl e ↦ rw e (elim m [ inl s ↦ inl s | inr m ↦ inr (among_filter test xs y m h) ])
  | inr e ↦ rw e (elim m [ inl s ↦ absurd (false≢true (sym e ∙ (ap test s ∙ h))) | inr m ↦ among_filter test xs y m h ])
]

-- filters by tests that agree
pub filter_agree : {X : Type 0} (f g : X → Bool) (xs : List X) → Each (λ x. f x ≡ g x) xs → filter f xs ≡ filter g xs
filter_agree f g [] h = refl
filter_agree f g (x ∷ xs) h = rw (h.0, filter_agree f g xs h.1)

-- the weaker of two tests does nothing
pub filter_twice : {X : Type 0} (f g : X → Bool) (xs : List X) → Each (λ x. f x ≡ true → g x ≡ true) xs → filter f (filter g xs) ≡ filter f xs
filter_twice f g [] h = refl
filter_twice f g (x ∷ xs) h = grind (arith, h.0, filter_twice f g xs h.1)

-- a test that all pass keeps all, and one that none passes keeps none
pub filter_all : {X : Type 0} (f : X → Bool) (xs : List X) → Each (λ x. f x ≡ true) xs → filter f xs ≡ xs
filter_all f [] h = refl
filter_all f (x ∷ xs) h = rw (h.0, filter_all f xs h.1)

pub filter_none : {X : Type 0} (f : X → Bool) (xs : List X) → Each (λ x. f x ≡ false) xs → filter f xs ≡ []
filter_none f [] h = refl
filter_none f (x ∷ xs) h = rw (h.0, filter_none f xs h.1)

-- how many pass
pub count_less : {X : Type 0} (f g : X → Bool) (xs : List X) → Each (λ x. f x ≡ true → g x ≡ true) xs → length (filter f xs) ≤ length (filter g xs)
count_less f g [] h = omega arith
count_less f g (x ∷ xs) h = grind (arith, h.0, count_less f g xs h.1)

-- one more where some element passes the second test alone
pub count_more : {X : Type 0} (f g : X → Bool) (xs : List X) (z : X) → Each (λ x. f x ≡ true → g x ≡ true) xs → Among xs z → f z ≡ false → g z ≡ true
    → length (filter f xs) + 1 ≤ length (filter g xs)
count_more f g [] z h m fails passes = absurd m
count_more f g (x ∷ xs) z h m fails passes = elim m [
  | inl e ↦ rw (ap f e ∙ fails, ap g e ∙ passes) (let less = count_less f g xs h.1 in omega arith)
  | inr m ↦ grind (arith, h.0, count_more f g xs z h.1 m fails passes)
]
