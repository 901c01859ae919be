-- The rows of `why`, provider by provider and slot by slot.
use Rattle.std.proofs.Common.{◌≡◌, ◌∙◌, ℕ, ◌+◌, ◌&&◌, ◌<◌, Bool, true, false, List, [], ◌∷◌, ◌++◌, get_or, length, map, take, refl, sym, ap, append-nil, append_assoc, arith, inl, inr}
use Rattle.std.specs.Prelude.{cond}
use Rattle.std.specs.List.{filter, flat_map, range_with_len}
use Rattle.std.proofs.lemmas.Bool.{cases_Bool}
use Rattle.std.proofs.lemmas.List.Concat.{flat_map-append}
use Rattle.std.proofs.lemmas.List.FromFn.{map-range_with_len_more}
use Rattle.std.proofs.lemmas.List.{map-append, map-id}
use Rattle.std.proofs.lemmas.List.Elements.{filter_more}
use Rattle.ac_cloud.specs.World.{Provider, is_available_at}
use Rattle.ac_prune.specs.Ahead.{hosts_of}

-- a filter behind another is one filter by both tests
pub both_tests : {X : Type 0} (f g : X → Bool) (xs : List X) → filter g (filter f xs) ≡ filter (λ x. f x && g x) xs
both_tests f g [] = refl
both_tests f g (x ∷ xs) = elim (cases_Bool (f x)) [
  | inl e ↦ elim (cases_Bool (g x)) [
    | inl k ↦ rw (e, k, both_tests f g xs) refl
    | inr k ↦ rw (e, k, both_tests f g xs) refl
  ]
  | inr e ↦ rw (e, both_tests f g xs) refl
]

-- those of a root's providers that pass a test
pub hosts_that : (all : List Provider) (r : ℕ) (test : ℕ → Bool) → filter test (hosts_of all r) ≡ filter (λ p. is_available_at all p r && test p) (range_with_len 0 (length all))
unfolding hosts_of
hosts_that all r test = both_tests (λ p. is_available_at all p r) test (range_with_len 0 (length all))

-- rows behind others
pub behind : {X : Type 0} (before rows : List X) (row : X) (more : List X) → more ≡ rows ++ row ∷ [] → (before ++ rows) ++ row ∷ [] ≡ before ++ more
behind before rows row more is = append_assoc before rows (row ∷ []) ∙ ap (λ l. before ++ l) (sym is)

-- one more item of a list: its row is the last, or it has none
module _ {X Y : Type 0} (row : X → Y) (test : X → Bool) (xs : List X) (i : ℕ) (d x : X) (low : i < length xs) (is : get_or xs i d ≡ x) where
  more_tested : filter test (take (i + 1) xs) ≡ filter test (take i xs) ++ cond (test x) (x ∷ []) []
  more_tested = filter_more test xs i d low ∙ ap (λ (y : X). filter test (take i xs) ++ cond (test y) (y ∷ []) []) is

  pub item_row : test x ≡ true → map row (filter test (take (i + 1) xs)) ≡ map row (filter test (take i xs)) ++ row x ∷ []
  item_row here = rw (more_tested, here) (map-append row (filter test (take i xs)) (x ∷ []))

  pub item_without : test x ≡ false → map row (filter test (take (i + 1) xs)) ≡ map row (filter test (take i xs))
  item_without away = rw (more_tested, away) (ap (map row) (append-nil (filter test (take i xs))))

-- what is said at one more place
pub place_more : {X : Type 0} (f : ℕ → List X) (before : List X) (s : ℕ) → (before ++ flat_map f (range_with_len 0 s)) ++ f s ≡ before ++ flat_map f (range_with_len 0 (s + 1))
place_more {X} f before s =
    let more : range_with_len 0 (s + 1) ≡ range_with_len 0 s ++ s ∷ [] =
    sym (map-id (range_with_len 0 (s + 1))) ∙ (map-range_with_len_more (λ (x : ℕ). x) 0 s s (omega arith) ∙ ap (λ (l : List ℕ). l ++ s ∷ []) (map-id (range_with_len 0 s))) in
    append_assoc before (flat_map f (range_with_len 0 s)) (f s)
    ∙ ap (λ (l : List X). before ++ l)
    (ap (λ (l : List X). flat_map f (range_with_len 0 s) ++ l) (sym (append-nil (f s))) ∙ (sym (flat_map-append f (range_with_len 0 s) (s ∷ [])) ∙ ap (flat_map f) (sym more)))
