-- What the rows of one provider show, in their order, is the map of all that is said of it.
use Rattle.ac_tables.proofs.Common.{◌≡◌, ◌∙◌, ◌<◌, ℕ, Bool, true, List, map, refl, sym, ap, ◌==◌, Ordering, filter, nat_list_cmp_total, Contains-permutation, IsPermutation-sym, All-permutation, exact_bytes, text_cmp, map_of, row_shown, IsTable, TableRow, map-map}
use Rattle.ac_base.proofs.Sorted.SameItems.{is_map}
use Rattle.ac_tables.proofs.Gathered.ProviderRows.{own_moved, own_keys_sorted, of_provider}

module _ {V K X : Type 0} (cmp : K → K → Ordering) (bytes : K → List ℕ) (same : (a b : K) → cmp a b ≡ text_cmp (bytes a) (bytes b))
    (shown : ℕ → K → X → V) (count : ℕ) (said : List V) (rows : List (TableRow K X)) (t : IsTable cmp shown count true said rows)
    (provider : V → ℕ) (part : V → List ℕ × X) (p id : ℕ)
    (whose : (r : TableRow K X) → r.place < count → (provider (row_shown shown r) == id) ≡ (r.place == p))
    (what : (r : TableRow K X) → part (row_shown shown r) ≡ (bytes r.key, r.value)) where
  abbrev here : TableRow K X → Bool
  here r = r.place == p

  abbrev pair : TableRow K X → List ℕ × X
  pair r = (bytes r.key, r.value)

  -- the map of one provider
  pub shown_map : map pair (filter here rows) ≡ map_of (map part (filter (λ v. provider v == id) said))
  shown_map =
      let back = IsPermutation-sym t.read rows t.same in
      is_map nat_list_cmp_total exact_bytes (map pair (filter here rows)) (map pair (filter here t.read))
      (rw (map-map (λ (e : List ℕ × X). e.0) pair (filter here rows)) (own_keys_sorted cmp text_cmp bytes same t.order.turn p rows (t.strict refl)))
      (own_moved here pair rows t.read (λ r. Contains-permutation rows t.read r back)) (own_moved here pair t.read rows (λ r. Contains-permutation t.read rows r t.same))
      ∙ ap map_of (sym (of_provider shown count provider part pair p id whose what t.read (All-permutation (λ (r : TableRow K X). r.place < count) rows t.read back t.inside))
      ∙ ap (λ vs. map part (filter (λ v. provider v == id) vs)) t.shows)
