-- The parents of providers by their places, and where their chains end.
use Rattle.ac_tables.proofs.Common.{◌≡◌, ◌<◌, ◌+◌, ◌∙◌, ℕ, true, false, List, [], ◌∷◌, map, length, get_or, Option, Some, None, refl, sym, ap, arith, inl, inr, ◌==◌, option_map, option_and_then, is_some, position_from, cases_Bool, get_or-map, length-map, top, is_endless, rank, parent_in, AreWithin, ProviderRecord, said_parent, is_one_of}
use Rattle.std.proofs.lemmas.Iterator.Adapters.{position_from-zero}
use Rattle.std.proofs.lemmas.List.Quantifiers.{position-Some}
use Rattle.ac_cloud.proofs.Trees.PlaceTrees.{steps}
use Rattle.ac_base.proofs.Small.{are_equal}
use Rattle.ac_cloud.specs.Cloud.Forests.{IsForest}

-- what has a place is there
pub ranked : (ids : List ℕ) (q j : ℕ) → rank ids q ≡ Some j → (j < length ids) × (get_or ids j 0 ≡ q)
ranked ids q j e =
    let found = position-Some (λ p. p == q) ids j 0 (position_from-zero (λ p. p == q) ids ∙ e) in
    (found.0, are_equal (get_or ids j 0) q found.1)

place_from : (q k : ℕ) (xs : List ℕ) → is_one_of xs q ≡ true → (j : ℕ) × (position_from (λ p. p == q) k xs ≡ Some j)
place_from q k [] h = absurd (cc)
place_from q k (x ∷ xs) h = elim (cases_Bool (x == q)) [
  | inl e ↦ (k, rw e refl)
  | inr e ↦ let rest = place_from q (k + 1) xs (rw e at h) in (rest.0, rw e rest.1)
]

-- what is there has a place
pub has_rank : (ids : List ℕ) (q : ℕ) → is_one_of ids q ≡ true → (j : ℕ) × (rank ids q ≡ Some j)
has_rank ids q h = place_from q 0 ids h

module _ (ids : List ℕ) (rows : List ProviderRecord) (known : (i q : ℕ) → i < length ids → said_parent rows (get_or ids i 0) ≡ Some q → is_one_of ids q ≡ true) (parents : List (Option ℕ)) (are : parents ≡ map (λ id. option_and_then (rank ids) (said_parent rows id)) ids) where
  abbrev name : ℕ → ℕ
  name i = get_or ids i 0

  at_place : (i : ℕ) → i < length ids → parent_in parents i ≡ option_and_then (rank ids) (said_parent rows (name i))
  at_place i h = ap (λ (l : List (Option ℕ)). get_or l i None) are ∙ get_or-map (λ id. option_and_then (rank ids) (said_parent rows id)) ids i 0 None h

  pub same_size : length parents ≡ length ids
  same_size = ap length are ∙ length-map ids (λ id. option_and_then (rank ids) (said_parent rows id))

  some_rank : (o : Option ℕ) (j : ℕ) → option_and_then (rank ids) o ≡ Some j → j < length ids
  some_rank None j e = absurd (cc)
  some_rank (Some q) j e = (ranked ids q j e).0

  pub are_within : AreWithin (length ids) parents
  are_within i j h e = some_rank (said_parent rows (name i)) j (sym (at_place i h) ∙ e)

  agree_on : (i : ℕ) → i < length ids → (o : Option ℕ) → said_parent rows (name i) ≡ o → o ≡ option_map name (option_and_then (rank ids) o)
  agree_on i h None e = refl
  agree_on i h (Some q) e =
      let r = has_rank ids q (known i q h e) in
      ap (λ (x : ℕ). Some x) (sym (ranked ids q r.0 r.1).1) ∙ ap (option_map name) (sym r.1)

  pub agree : (i : ℕ) → i < length ids → said_parent rows (name i) ≡ option_map name (parent_in parents i)
  agree i h = agree_on i h (said_parent rows (name i)) refl ∙ ap (option_map name) (sym (at_place i h))

  nothing : (o : Option ℕ) → is_some (option_map name o) ≡ false → o ≡ None
  nothing None e = refl
  nothing (Some q) e = absurd (cc)

  chains_end : ((i : ℕ) → i < length ids → is_endless (said_parent rows) (length ids) (get_or ids i 0) ≡ false) → (i : ℕ) → i < length ids → parent_in parents (top (parent_in parents) (length ids) i) ≡ None
  chains_end ends i h =
      let s = steps (said_parent rows) name (length ids) parents are_within agree (length ids) i h in
      nothing (parent_in parents (top (parent_in parents) (length ids) i))
      (ap is_some (sym (agree (top (parent_in parents) (length ids) i) s.0)) ∙ ap (λ (x : ℕ). is_some (said_parent rows x)) (sym s.1) ∙ ends i h)

  -- these parents with their roots, where each chain ends
  pub forest : (roots : List ℕ) → length roots ≡ length parents → ((i : ℕ) → i < length parents → get_or roots i 0 ≡ top (parent_in parents) (length parents) i)
      → ((i : ℕ) → i < length ids → is_endless (said_parent rows) (length ids) (get_or ids i 0) ≡ false) → IsForest (length ids) parents roots
  forest roots sized tops ends = grind (arith, are_within, chains_end, same_size)
