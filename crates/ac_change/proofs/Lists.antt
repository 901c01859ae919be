-- Lists whose items are tested, one by one and all.
use Rattle.ac_change.proofs.Common.{◌≡◌, ◌<◌, ◌+◌, ◌∙◌, ◌++◌, ◌∷◌, ℕ, Bool, true, false, List, [], map, filter, length, get_or, take, get_or-map, length-map, sym, ap, ap₂, inl, inr, arith, list_any, cases_Bool, is_lt, IsTotalOrder}
use Rattle.std.proofs.Common.{Less}
use Rattle.std.specs.List.{AllByRecursion}
use Rattle.std.specs.List.Sorted.{IsStrictlySortedBy}
use Rattle.std.proofs.lemmas.List.{map-append, take_more}
use Rattle.std.proofs.lemmas.List.Folds.{list_any_at}
use Rattle.std.proofs.lemmas.List.Kept.{IsStrictlySortedBy-filter}
use Rattle.std.proofs.lemmas.Grind.{common_steps}
use Rattle.ac_base.proofs.Small.{clash}
use Rattle.std.specs.declared.cmp.Ordering.{Ordering}

-- where none passes a test, the one at a place doesn't
pub none_here : {X Y : Type 0} (f : X → Y) (test : Y → Bool) (xs : List X) (i : ℕ) (x : X) → list_any test (map f xs) ≡ false → i < length xs → x ≡ get_or xs i x → test (f x) ≡ false
none_here f test xs i x none inside here = elim (cases_Bool (test (f x))) [
  | inl passes ↦
      absurd (clash (list_any test (map f xs)) none
      (list_any_at test (map f xs) i (f x) (omega (arith, inside, length-map xs f)) (ap test (get_or-map f xs i x (f x) inside ∙ ap f (sym here)) ∙ passes)))
  | inr fails ↦ fails
]

-- one more of what is made of a list
pub made_more : {A X Y : Type 0} (shown : A → Y) (f : X → Y) (new more : List A) (a : A) (xs : List X) (i : ℕ) (x : X) → i < length xs → x ≡ get_or xs i x
    → more ≡ new ++ a ∷ [] → map shown new ≡ map f (take i xs) → shown a ≡ f x → map shown more ≡ map f (take (i + 1) xs)
made_more shown f new more a xs i x inside here is was one =
    ap (map shown) is ∙ map-append shown new (a ∷ []) ∙ ap₂ (λ ys y. ys ++ y ∷ []) was (one ∙ ap f here)
    ∙ sym (ap (map f) (take_more xs i x inside) ∙ map-append f (take i xs) (get_or xs i x ∷ []))

is_less : (o : Ordering) → is_lt o ≡ true → o ≡ Less
is_less o h = grind (arith, common_steps)

module _ {K : Type 0} {R : K → K → Ordering} (total : IsTotalOrder R) (x : K) where
  all_before : (xs : List K) → AllByRecursion (λ y. R y x ≡ Less) (filter (λ y. is_lt (R y x)) xs)
  all_before [] = tt
  all_before (y ∷ xs) = elim (cases_Bool (is_lt (R y x))) [ inl e ↦ rw e (is_less (R y x) e, all_before xs) | inr ne ↦ rw ne (all_before xs) ]

  all_behind : (y : K) → R y x ≡ Less → (xs : List K) → AllByRecursion (λ z. R y z ≡ Less) (filter (λ z. is_lt (R x z)) xs)
  all_behind y less [] = tt
  all_behind y less (z ∷ xs) = elim (cases_Bool (is_lt (R x z))) [
    | inl e ↦ rw e (total.trans y x z less (is_less (R x z) e), all_behind y less xs)
    | inr ne ↦ rw ne (all_behind y less xs)
  ]

  all_above : (xs : List K) → AllByRecursion (λ z. R x z ≡ Less) (filter (λ z. is_lt (R x z)) xs)
  all_above [] = tt
  all_above (z ∷ xs) = elim (cases_Bool (is_lt (R x z))) [ inl e ↦ rw e (is_less (R x z) e, all_above xs) | inr ne ↦ rw ne (all_above xs) ]

  all_joined : (P : K → Type 0) (front back : List K) → AllByRecursion P front → P x → AllByRecursion P back → AllByRecursion P (front ++ x ∷ back)
  all_joined P [] back before here rest = (here, rest)
  all_joined P (a ∷ front) back before here rest = (before.0, all_joined P front back before.1 here rest)

  joined : (front xs : List K) → IsStrictlySortedBy R front → AllByRecursion (λ y. R y x ≡ Less) front → IsStrictlySortedBy R (filter (λ z. is_lt (R x z)) xs)
      → IsStrictlySortedBy R (front ++ x ∷ filter (λ z. is_lt (R x z)) xs)
  unfolding IsStrictlySortedBy
  joined [] xs rise before rest = (all_above xs, rest)
  joined (a ∷ front) xs rise before rest = (
    all_joined (λ z. R a z ≡ Less) front (filter (λ z. is_lt (R x z)) xs) rise.0 before.0 (all_behind a before.0 xs),
    joined front xs rise.1 before.1 rest,
  )

  -- with one more, in its place
  pub with_rises : (xs : List K) → IsStrictlySortedBy R xs → IsStrictlySortedBy R (filter (λ y. is_lt (R y x)) xs ++ x ∷ filter (λ y. is_lt (R x y)) xs)
  with_rises xs rise = joined (filter (λ y. is_lt (R y x)) xs) xs (IsStrictlySortedBy-filter R (λ y. is_lt (R y x)) xs rise) (all_before xs) (IsStrictlySortedBy-filter R (λ z. is_lt (R x z)) xs rise)
