-- The places of ids, one after another.
use Rattle.std.proofs.Common.{◌≡◌, ◌∙◌, ◌<◌, ◌≤◌, ◌+◌, ℕ, suc, List, [], ◌∷◌, ◌++◌, length, get_or, drop, Option, Some, None, refl, sym, ap, append_assoc, drop-cons, add-one}
use Rattle.std.specs.Option.{option_map, option_and_then}
use Rattle.std.proofs.lemmas.List.{append-nil, drop_all}
use Rattle.ac_cloud.specs.World.{Provider, place_of}
use Rattle.ac_rules.specs.Located.{places_of}

module _ (all : List Provider) (ids : List ℕ) where
  -- one more
  pub located_more : (i : ℕ) (places : List ℕ) (id place : ℕ) → i < length ids → get_or ids i id ≡ id → place_of all id ≡ Some place
      → places_of all ids ≡ option_map (λ rest. places ++ rest) (places_of all (drop i ids))
      → places_of all ids ≡ option_map (λ rest. (places ++ place ∷ []) ++ rest) (places_of all (drop (i + 1) ids))
  located_more i places id place inside here found so_far =
      so_far ∙ ap (λ (l : List ℕ). option_map (λ rest. places ++ rest) (places_of all l)) (drop-cons ids i id inside)
      ∙ ap (λ (n : ℕ). option_map (λ rest. places ++ rest) (places_of all (n ∷ drop (suc i) ids))) here
      ∙ ap (λ o. option_map (λ rest. places ++ rest) (option_and_then (λ p. option_map (λ l. p ∷ l) (places_of all (drop (suc i) ids))) o)) found
      ∙ joined (places_of all (drop (suc i) ids)) ∙ ap (λ (n : ℕ). option_map (λ rest. (places ++ place ∷ []) ++ rest) (places_of all (drop n ids))) (sym (add-one i))
    where
      joined : (o : Option (List ℕ)) → option_map (λ rest. places ++ rest) (option_map (λ l. place ∷ l) o) ≡ option_map (λ rest. (places ++ place ∷ []) ++ rest) o
      joined None = refl
      joined (Some rest) = ap (λ l. Some l) (sym (append_assoc places (place ∷ []) rest))

  -- all of them
  pub located_all : (i : ℕ) (places : List ℕ) → length ids ≤ i → places_of all ids ≡ option_map (λ rest. places ++ rest) (places_of all (drop i ids)) → Some places ≡ places_of all ids
  located_all i places end so_far = sym (so_far ∙ ap (λ (l : List ℕ). option_map (λ rest. places ++ rest) (places_of all l)) (drop_all i ids end) ∙ ap (λ l. Some l) (append-nil places))
