-- The rows of usages, entry by entry and provider by provider.
use Rattle.std.proofs.Common.{◌≡◌, ◌∙◌, ℕ, ◌+◌, ◌<◌, Bool, true, false, List, [], ◌∷◌, ◌++◌, map, length, get_or, take, refl, sym, ap, subst, append-nil, append_assoc}
use Rattle.std.specs.Prelude.{cond}
use Rattle.std.specs.List.{filter, flat_map, list_all, range_with_len}
use Rattle.std.proofs.lemmas.List.{flat_map_more, get_or-map, map-append, take_more}
use Rattle.std.proofs.lemmas.List.Elements.{filter_more}
use Rattle.std.proofs.lemmas.List.FromFn.{fill_by_all}
use Rattle.std.proofs.lemmas.List.Folds.{list_all-map}
use Rattle.ac_cloud.specs.World.{Provider, no_provider, provider_at}
use Rattle.ac_tables.specs.UsageRows.{Entry, is_used, rows_of_provider, usage_row}

-- a test of all providers, place by place
pub by_places : (test : Provider → Bool) (all : List Provider) → list_all (λ ix. test (provider_at all ix)) (range_with_len 0 (length all)) ≡ list_all test all
by_places test all =
    sym (list_all-map test (provider_at all) (range_with_len 0 (length all))) ∙ ap (list_all test) (sym (fill_by_all (provider_at all) all (length all) no_provider refl (λ k h. refl)))

-- an item of a list, as it is shown
pub item_at : {X Y : Type 0} (f : X → Y) (xs : List X) (i : ℕ) (x : X) → i < length xs → x ≡ get_or xs i x → f x ≡ get_or (map f xs) i (f x)
item_at f xs i x low is = ap f is ∙ sym (get_or-map f xs i x (f x) low)

-- one entry more, which is used or not
module _ (id : ℕ) (before : List (List (List ℕ))) (es : List Entry) (i : ℕ) (e : Entry) (low : i < length es) (is : e ≡ get_or es i e) where
  abbrev rows : ℕ → List (List (List ℕ))
  rows n = map (usage_row id) (filter is_used (take n es))

  used_more : filter is_used (take (i + 1) es) ≡ filter is_used (take i es) ++ cond (is_used e) (e ∷ []) []
  used_more =
      subst (λ (y : Entry). filter is_used (take (i + 1) es) ≡ filter is_used (take i es) ++ cond (is_used y) (y ∷ []) []) (sym is) (filter_more is_used es i e low)

  pub row_more : is_used e ≡ true → (before ++ rows i) ++ usage_row id e ∷ [] ≡ before ++ rows (i + 1)
  row_more here =
      append_assoc before (rows i) (usage_row id e ∷ [])
      ∙ ap (λ l. before ++ l) (sym (rw (used_more, here) (map-append (usage_row id) (filter is_used (take i es)) (e ∷ []))))

  pub row_same : is_used e ≡ false → before ++ rows i ≡ before ++ rows (i + 1)
  row_same away = ap (λ l. before ++ l) (sym (rw (used_more, away) (ap (map (usage_row id)) (append-nil (filter is_used (take i es))))))

-- the rows of one provider more
pub provider_more : (before : List (List (List ℕ))) (all : List Provider) (ix : ℕ) → ix < length all
    → (before ++ flat_map rows_of_provider (take ix all)) ++ rows_of_provider (provider_at all ix) ≡ before ++ flat_map rows_of_provider (take (ix + 1) all)
provider_more before all ix low =
    flat_map_more rows_of_provider before (take ix all) (provider_at all ix) ∙ ap (λ l. before ++ flat_map rows_of_provider l) (sym (take_more all ix no_provider low))
