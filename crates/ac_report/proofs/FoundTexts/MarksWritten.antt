-- Lines of names that rise: those that aren't marked, and so many at a time.
use Rattle.std.proofs.Common.{inl, inr, ◌≡◌, ◌∙◌, ◌<◌, ◌≤◌, ◌+◌, ℕ, zero, suc, Bool, false, Ordering, List, [], ◌∷◌, ◌++◌, length, get_or, map, replicate, take, refl, ap, ap₂, subst, arith}
use Rattle.std.specs.List.{flat_map, range_with_len, AllByRecursion as Each}
use Rattle.std.specs.List.Sorted.{IsStrictlySortedBy}
use Rattle.std.proofs.lemmas.Bool.{cases_lt}
use Rattle.std.proofs.lemmas.Grind.{flat_map-append}
use Rattle.std.proofs.lemmas.List.{get_or-replicate, get_or_past, length-replicate, map-append, take-replicate}
use Rattle.ac_base.specs.Texts.{text_cmp}
use Rattle.ac_report.specs.Findings.Explanation.Nobody.{line_of, unless, unmarked_lines}

-- no mark is set at first
pub none_marked : (m n k : ℕ) → m ≤ n → get_or (take m (replicate n false)) k false ≡ false
none_marked m n k few =
    rw (take-replicate m n false few) (elim (cases_lt k m) [
      | inl low ↦ get_or-replicate m k false false low
      | inr past ↦ get_or_past (replicate m false) k false (omega (arith, past, length-replicate {A = Bool} m false))
    ])

-- what is told of each place is told of what stands there
places_told : {X : Type 0} (at : ℕ → List ℕ) (told : X → List ℕ) (xs : List X) (n : ℕ) (d : X)
    → ((j k : ℕ) → j ≡ n + k → k < length xs → at j ≡ told (get_or xs k d)) → flat_map at (range_with_len n (length xs)) ≡ flat_map told xs
places_told at told [] n d same = refl
places_told at told (x ∷ xs) n d same =
    ap₂ (λ s t. s ++ t) (same n zero (omega arith) (omega arith))
    (places_told at told xs (n + 1) d (λ (j k : ℕ) (is : j ≡ n + 1 + k) (low : k < length xs). same j (suc k) (omega (arith, is)) (omega (arith, low))))

-- the lines of names that nobody has, by their marks
pub unmarked_told : (front : List ℕ) (had : List ℕ → Bool) (names : List (List ℕ)) (marks : List Bool)
    → ((k : ℕ) → k < length names → get_or marks k false ≡ had (get_or names k []))
    → unmarked_lines front names marks ≡ flat_map (λ name. unless (had name) (line_of front name)) names
unmarked_told front had names marks are =
    places_told (λ (k : ℕ). unless (get_or marks k false) (line_of front (get_or names k []))) (λ name. unless (had name) (line_of front name)) names 0 []
    (λ (j k : ℕ) (e : j ≡ 0 + k) (low : k < length names).
    let is : j ≡ k = omega (arith, e) in
    rw is (ap (λ b. unless b (line_of front (get_or names k []))) (are k low)))

-- ---- Both parts of what rises

each_front : {X : Type 0} (P : X → Type 0) (xs ys : List X) → Each P (xs ++ ys) → Each P xs
each_front P [] ys h = tt
each_front P (x ∷ xs) ys h = (h.0, each_front P xs ys h.1)

rising_parts : {X : Type 0} (c : X → X → Ordering) (xs ys : List X) → IsStrictlySortedBy c (xs ++ ys) → IsStrictlySortedBy c xs × IsStrictlySortedBy c ys
unfolding IsStrictlySortedBy
rising_parts c [] ys h = (tt, h)
rising_parts c (x ∷ xs) ys h = let rest = rising_parts c xs ys h.1 in ((each_front _ xs ys h.0, rest.0), rest.1)

module _ {X : Type 0} (name : X → List ℕ) {xs : List X} (front rest : List X) (is : xs ≡ front ++ rest) where
  parts : map name xs ≡ map name front ++ map name rest
  parts = ap (map name) is ∙ map-append name front rest

  pub both_rise : IsStrictlySortedBy text_cmp (map name xs) → IsStrictlySortedBy text_cmp (map name front) × IsStrictlySortedBy text_cmp (map name rest)
  both_rise rising = rising_parts text_cmp (map name front) (map name rest) (subst (IsStrictlySortedBy text_cmp) parts rising)

  pub both_told : (told : List ℕ → List ℕ) → flat_map told (map name xs) ≡ flat_map told (map name front) ++ flat_map told (map name rest)
  both_told told = ap (flat_map told) parts ∙ flat_map-append told (map name front) (map name rest)
