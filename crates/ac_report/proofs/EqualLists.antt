-- Of two equal lists of `same_subtree` it is the same which is taken away.
use Rattle.std.proofs.Common.{◌≡◌, ◌∙◌, ◌<◌, ℕ, zero, suc, Bool, ◌&&◌, List, [], ◌∷◌, true, length, get_or, map, remove, refl, sym, ap, arith, ap₂}
use Rattle.std.specs.Prelude.{not}
use Rattle.std.specs.List.{list_all}
use Rattle.std.specs.Cmp.Lexicographic.{pointwise}
use Rattle.std.proofs.lemmas.Bool.{and_parts, false≢true}
use Rattle.ac_query.specs.Asked.{Asked, slots_of}
use Rattle.ac_query.specs.Without.{without_subtree}
use Rattle.ac_cloud.specs.World.{Provider}
use Rattle.ac_rules.specs.Judge.{is_candidate, tests}
use Rattle.ac_rules.specs.Lists.{all_lists}
use Rattle.ac_rules.specs.Pages.{candidates}
use Rattle.ac_rules.specs.Placed.{Placed}
use Rattle.ac_rules.specs.Together.{anchor, collective, is_empty, isolate, subtree, takes_root}
use Rattle.ac_rules.proofs.Elements.{each_all, filter_agree}
use Rattle.ac_report.specs.Findings.Explanation.Candidates.{has_candidate}

-- an item, and all others
all_removed : {X : Type 0} (f : X → Bool) (xs : List X) (k : ℕ) (d : X) → k < length xs → list_all f xs ≡ (f (get_or xs k d) && list_all f (remove xs k))
all_removed f [] k d h = absurd (omega (arith, h))
all_removed f (x ∷ xs) zero d h = refl
all_removed f (x ∷ xs) (suc k) d h = let more = all_removed f xs k d (omega (arith, h)) in grind (arith, more)

-- of two equal items it is the same which is taken away
same_removed : {X : Type 0} (f : X → Bool) (xs : List X) (j k : ℕ) (d : X) → j < k → k < length xs → get_or xs j d ≡ get_or xs k d
    → list_all f (remove xs k) ≡ list_all f (remove xs j)
same_removed f [] j k d less low same = absurd (omega (arith, low))
same_removed f (x ∷ xs) j zero d less low same = absurd (omega (arith, less))
same_removed f (x ∷ xs) zero (suc k) d less low same = ap (λ y. f y && list_all f (remove xs k)) same ∙ sym (all_removed f xs k d (omega (arith, low)))
same_removed f (x ∷ xs) (suc j) (suc k) d less low same = ap (λ b. f x && b) (same_removed f xs j k d (omega (arith, less)) (omega (arith, low)) same)

module _ (all : List Provider) (asked : Asked) (j k : ℕ) (less : j < k) (low : k < length asked.subtrees)
    (same : get_or asked.subtrees j [] ≡ get_or asked.subtrees k []) where
  subtree_same : (xs : List Placed) → subtree all (without_subtree k asked) xs ≡ subtree all (without_subtree j asked) xs
  unfolding subtree
  subtree_same xs = same_removed _ asked.subtrees j k [] less low same

  candidate_same : (t : List ℕ) → is_candidate all (without_subtree k asked) t ≡ is_candidate all (without_subtree j asked) t
  unfolding is_candidate tests collective isolate anchor takes_root
  candidate_same t = rw (subtree_same _) refl

  pub found_same : has_candidate all (without_subtree k asked) ≡ has_candidate all (without_subtree j asked)
  unfolding candidates
  found_same =
      ap (λ lists. not (is_empty lists))
      (filter_agree (λ t. is_candidate all (without_subtree k asked) t) (λ t. is_candidate all (without_subtree j asked) t)
      (all_lists (length all) (length (slots_of asked))) (each_all _ _ candidate_same))

-- sets whose keys are equal one by one show the same
pub same_shown : {X : Type 0} (equal : X → X → Bool) (shown : X → List ℕ) → ((x y : X) → equal x y ≡ true → shown x ≡ shown y)
    → (xs ys : List X) → pointwise equal xs ys ≡ true → map shown xs ≡ map shown ys
same_shown equal shown each [] [] h = refl
same_shown equal shown each [] (y ∷ ys) h = absurd (false≢true h)
same_shown equal shown each (x ∷ xs) [] h = absurd (false≢true h)
same_shown equal shown each (x ∷ xs) (y ∷ ys) h =
    let both = and_parts _ _ h in
    ap₂ (λ k ks. k ∷ ks) (each x y both.0) (same_shown equal shown each xs ys both.1)
