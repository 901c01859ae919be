-- The providers of a cloud, place by place.
use Rattle.ac_cloud.proofs.Common.{◌≡◌, ◌<◌, ◌+◌, ◌∙◌, ℕ, zero, suc, List, [], ◌∷◌, map, length, get_or, Option, Some, refl, ap, arith, ◌==◌, if◌then◌else◌, option_map, AreParents, range_with_len, position_from, get_or-map-range_with_len, length-map, TextMap, top, rank, parent_in, AreWithin, IsRising, UsedInventory, Provider, no_provider, provider_at, place_of, parent_of, root_of, numbered_at, length-range_with_len}
use Rattle.ac_cloud.specs.World.{is_provider}
use Rattle.ac_cloud.specs.Cloud.Numbered.{numbered}
use Rattle.ac_cloud.proofs.Rising.{rank_at}
use Rattle.ac_cloud.proofs.Trees.PlaceTrees.{steps}

module _ (ids : List ℕ) (parents : List (Option ℕ)) (entries : List (TextMap UsedInventory)) (traits : List (List (List ℕ))) (aggregates names : List (List ℕ)) where
  abbrev all : List Provider
  all = numbered ids parents entries traits aggregates names

  abbrev at : ℕ → Provider
  at = numbered_at ids parents entries traits aggregates names

  pub numbered_size : length (numbered ids parents entries traits aggregates names) ≡ length ids
  unfolding numbered
  numbered_size = length-map (range_with_len 0 (length ids)) at ∙ length-range_with_len 0 (length ids)

  pub numbered_here : (ix : ℕ) → ix < length ids → provider_at (numbered ids parents entries traits aggregates names) ix ≡ numbered_at ids parents entries traits aggregates names ix
  unfolding numbered
  numbered_here ix h = get_or-map-range_with_len at 0 (length ids) ix ix no_provider h (omega arith)

  position_numbered : (id k : ℕ) (xs : List ℕ) → ((i : ℕ) → i < length xs → get_or ids (k + i) 0 ≡ get_or xs i 0)
      → position_from (is_provider id) k (map at (range_with_len k (length xs))) ≡ position_from (λ p. p == id) k xs
  position_numbered id k [] same = refl
  position_numbered id k (x ∷ xs) same =
      let first : get_or ids k 0 ≡ x = ap (λ (j : ℕ). get_or ids j 0) (omega arith) ∙ same zero (omega arith) in
      ap (λ (y : ℕ). if y == id then Some k else position_from (is_provider id) (k + 1) (map at (range_with_len (k + 1) (length xs)))) first
      ∙ ap (λ o. if x == id then Some k else o)
      (position_numbered id (k + 1) xs (λ (i : ℕ) (h : i < length xs). ap (λ (j : ℕ). get_or ids j 0) (omega arith) ∙ same (suc i) (omega arith)))

  pub numbered_place : (id : ℕ) → place_of (numbered ids parents entries traits aggregates names) id ≡ rank ids id
  unfolding numbered
  numbered_place id = position_numbered id 0 ids (λ (i : ℕ) (h : i < length ids). ap (λ (j : ℕ). get_or ids j 0) (omega arith))

  -- the parent of the provider at a place
  pub numbered_parent : IsRising ids → (ix : ℕ) → ix < length ids
      → parent_of (numbered ids parents entries traits aggregates names) (get_or ids ix 0) ≡ option_map (λ j. get_or ids j 0) (parent_in parents ix)
  numbered_parent rising ix h = grind (arith, numbered_here, numbered_place, rank_at)

  -- the root of the provider at a place
  pub numbered_root : IsRising ids → AreWithin (length ids) parents → (ix : ℕ) → ix < length ids
      → (top (parent_in parents) (length ids) ix < length ids) × (root_of (numbered ids parents entries traits aggregates names) (get_or ids ix 0) ≡ get_or ids (top (parent_in parents) (length ids) ix) 0)
  numbered_root rising within ix h =
      let s = steps (parent_of all) (λ (i : ℕ). get_or ids i 0) (length ids) parents within (numbered_parent rising) (length ids) ix h in
      (s.0, ap (λ (n : ℕ). top (parent_of all) n (get_or ids ix 0)) numbered_size ∙ s.1)

-- parents that are places of a list as long as theirs
pub are_parents : (parents : List (Option ℕ)) (n : ℕ) → length parents ≡ n → AreWithin n parents → AreParents parents
are_parents parents n size within i h = grind (arith)
