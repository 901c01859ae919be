-- Amounts by class, need by need.
use Rattle.std.proofs.Common.{◌≡◌, ◌∙◌, ℕ, Bool, true, false, ◌&&◌, ◌||◌, List, [], ◌∷◌, map, Option, Some, None, is_some, if◌then◌else◌, refl, sym, ap, ap₂}
use Rattle.std.specs.Prelude.{not}
use Rattle.std.specs.List.{fold}
use Rattle.std.specs.Map.{lookup}
use Rattle.std.specs.BTreeMap.{insert_entry, is_at}
use Rattle.std.specs.Cmp.Lexicographic.{texts_ties}
use Rattle.std.proofs.lemmas.Cmp.{nat_list_cmp_total}
use Rattle.ac_base.specs.Texts.{text_cmp}
use Rattle.ac_base.specs.Sorted.{TextMap, map_of}
use Rattle.ac_base.proofs.Sorted.SameItems.{there_after}
use Rattle.ac_query.specs.Texts.{has_text}
use Rattle.ac_query.specs.Pairs.Values.{are_apart, by_class}

abbrev Need : Type 0
Need = List ℕ × ℕ

abbrev is_there : TextMap ℕ → List ℕ → Bool
is_there m class = is_some (lookup (is_at (text_cmp class)) m)

abbrev with_one : TextMap ℕ → Need → TextMap ℕ
with_one m need = insert_entry text_cmp m need.0 need.1

-- whether each class is new when its turn comes
abbrev are_new : TextMap ℕ → List Need → Bool
are_new m [] = true
are_new m (need ∷ needs) = not (is_there m need.0) && are_new (with_one m need) needs

-- these amounts and those of more needs, where each class is new
abbrev pub with_new : TextMap ℕ → List Need → Option (TextMap ℕ)
with_new m needs = if are_new m needs then Some (fold with_one m needs) else None

new_are_apart : (m : TextMap ℕ) (seen : List (List ℕ)) (needs : List Need) → ((t : List ℕ) → is_there m t ≡ has_text seen t) → are_new m needs ≡ are_apart seen (map (λ n. n.0) needs)
new_are_apart m seen [] same = refl
new_are_apart m seen (need ∷ needs) same =
    ap₂ (λ a b. not a && b) (same need.0)
    (new_are_apart (with_one m need) (need.0 ∷ seen) needs
    (λ t. there_after nat_list_cmp_total t m need.0 need.1 ∙ ap₂ (λ a b. a || b) (sym (texts_ties t need.0)) (same t)))

pub all_by_class : (needs : List Need) → with_new [] needs ≡ by_class needs
all_by_class needs = ap (λ b. if b then Some (map_of needs) else None) (new_are_apart [] [] needs (λ t. refl))

-- a turn of the loop over needs
module _ (m : TextMap ℕ) (left rest : List Need) (need : Need) (whole : Option (TextMap ℕ)) (turn : left ≡ need ∷ rest) (holds : with_new m left ≡ whole) where
  pub class_there : is_there m need.0 ≡ true → None ≡ whole
  class_there is = sym (ap (with_new m) turn ∙ (rw is refl)) ∙ holds

  pub class_new : (more : TextMap ℕ) → is_there m need.0 ≡ false → more ≡ with_one m need → with_new more rest ≡ whole
  class_new more is added = ap (λ n. with_new n rest) added ∙ sym (ap (with_new m) turn ∙ (rw is refl)) ∙ holds
