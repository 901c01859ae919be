-- Gathering roots one by one.
use Rattle.ac_cloud.proofs.Common.{◌≡◌, ◌∙◌, ◌+◌, ℕ, Bool, List, [], ◌∷◌, map, get_or, refl, sym, ap, ap₂, arith, ◌==◌, ◌||◌, ◌&&◌, list_any, range_with_len, is_among, meets, or-false}
use Rattle.std.proofs.lemmas.List.Folds.{list_any-append}
use Rattle.std.proofs.lemmas.List.FromFn.{map-range_with_len_more}
use Rattle.ac_base.proofs.Sorted.SearchFacts.{any_map}

-- one more number of a range
any_range_more : (f : ℕ → Bool) (n : ℕ) → list_any f (range_with_len 0 (n + 1)) ≡ (list_any f (range_with_len 0 n) || f n)
any_range_more f n =
    let all = any_map f (λ b. b) f (λ q. refl) in
    all (range_with_len 0 (n + 1)) ∙ ap (list_any (λ b. b)) (map-range_with_len_more f 0 n n (omega arith))
    ∙ list_any-append (λ b. b) (map f (range_with_len 0 n)) (f n ∷ []) ∙ ap₂ (λ a b. a || b) (sym (all (range_with_len 0 n))) (or-false (f n))

-- the roots of the first providers and of one more
pub meets_more : (roots : List ℕ) (aggregates : List (List ℕ)) (n a r : ℕ) (root : ℕ) (ids : List ℕ) (old new : Bool) → root ≡ get_or roots n 0 → ids ≡ get_or aggregates n []
    → new ≡ (old || ((root == r) && is_among a ids)) → old ≡ meets roots aggregates n a r → new ≡ meets roots aggregates (n + 1) a r
meets_more roots aggregates n a r root ids old new is_root is_ids e h = grind (arith, any_range_more)
