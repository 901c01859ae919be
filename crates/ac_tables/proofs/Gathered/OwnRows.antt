-- The rows of each provider, by its place, and clones of their keys.
use Rattle.ac_tables.proofs.Common.{◌≡◌, ◌∙◌, ◌+◌, ◌<◌, ◌≤◌, ℕ, zero, suc, Bool, true, false, List, [], ◌∷◌, map, length, get_or, refl, sym, ap, inl, inr, ◌==◌, nat_lt, arith, rules, sum_by, cases_Bool, filter, range_with_len, length-map, length-range_with_len, get_or-map-range_with_len, own_rows, TableRow, ◌++◌, take, ap₂, subst, map-append}
use Rattle.std.proofs.Common.{add-one}
use Rattle.std.proofs.lemmas.Bool.{cases_order}
use Rattle.std.proofs.lemmas.List.FromFn.{sum_by-map-range_with_len_more, map-range_with_len_more}
use Rattle.ac_tables.specs.declared.reader.provider_rows.ProviderRows.{ProviderRows}
use Rattle.std.specs.List.{AllZip}
use Rattle.std.proofs.lemmas.List.{take_more}
use Rattle.std.proofs.lemmas.List.Elements.{AllZip-push}

pub lists_long : {K X : Type 0} (rows : List (TableRow K X)) (n : ℕ) → length (map (λ p. filter (λ r. r.place == p) rows) (range_with_len 0 n)) ≡ n
lists_long {K} {X} rows n = length-map (range_with_len 0 n) (λ p. filter (λ (r : TableRow K X). r.place == p) rows) ∙ length-range_with_len 0 n

-- the rows of all providers together
module _ {K X : Type 0} where
  none_below : (rows : List (TableRow K X)) → length (filter (λ r. nat_lt r.place 0) rows) ≡ 0
  none_below [] = refl
  none_below (r ∷ rows) = let none : nat_lt r.place 0 ≡ false = search (arith, rules) in rw none (none_below rows)

  one_more : (n : ℕ) (rows : List (TableRow K X)) → length (filter (λ r. nat_lt r.place (n + 1)) rows) ≡ length (filter (λ r. nat_lt r.place n) rows) + length (filter (λ r. r.place == n) rows)
  one_more n [] = refl
  one_more n (r ∷ rows) =
      let rest = one_more n rows in
      elim (cases_order r.place n) [
        | inl e ↦
            let a : nat_lt r.place (n + 1) ≡ true = search (arith, rules) in
            let b : nat_lt r.place n ≡ false = search (arith, rules) in
            let c : (r.place == n) ≡ true = search (arith, rules) in
            rw (a, b, c) (omega (arith, rest))
        | inr (inl less) ↦
            let a : nat_lt r.place (n + 1) ≡ true = search (arith, rules) in
            let b : nat_lt r.place n ≡ true = search (arith, rules) in
            let c : (r.place == n) ≡ false = search (arith, rules) in
            rw (a, b, c) (omega (arith, rest))
        | inr (inr more) ↦
            let a : nat_lt r.place (n + 1) ≡ false = search (arith, rules) in
            let b : nat_lt r.place n ≡ false = search (arith, rules) in
            let c : (r.place == n) ≡ false = search (arith, rules) in
            rw (a, b, c) (omega (arith, rest))
      ]

  sum_below : (rows : List (TableRow K X)) (n : ℕ) → sum_by length (map (λ p. filter (λ r. r.place == p) rows) (range_with_len 0 n)) ≡ length (filter (λ r. nat_lt r.place n) rows)
  sum_below rows zero = sym (none_below rows)
  sum_below rows (suc n) =
      ap (λ m. sum_by length (map (λ p. filter (λ (r : TableRow K X). r.place == p) rows) (range_with_len 0 m))) (sym (add-one n))
      ∙ sum_by-map-range_with_len_more length (λ p. filter (λ (r : TableRow K X). r.place == p) rows) 0 n n (omega arith)
      ∙ ap (λ m. m + length (filter (λ (r : TableRow K X). r.place == n) rows)) (sum_below rows n)
      ∙ sym (one_more n rows) ∙ ap (λ m. length (filter (λ (r : TableRow K X). nat_lt r.place m) rows)) (add-one n)

  kept_few : (p : TableRow K X → Bool) (rows : List (TableRow K X)) → length (filter p rows) ≤ length rows
  kept_few p [] = omega arith
  kept_few p (r ∷ rows) = let rest = kept_few p rows in elim (cases_Bool (p r)) [
    | inl e ↦ rw e (omega (arith, rest))
    | inr e ↦ rw e (omega (arith, rest))
  ]

  pub own_few : (rows : List (TableRow K X)) (n : ℕ) → sum_by length (map (λ p. filter (λ r. r.place == p) rows) (range_with_len 0 n)) ≤ length rows
  own_few rows n = omega (arith, sum_below rows n, kept_few (λ (r : TableRow K X). nat_lt r.place n) rows)

module _ {K X : Type 0} (own : ProviderRows K X) where
  pub own_size : length (own_rows own) ≡ length own.spans.items
  own_size = lists_long own.rows.items (length own.spans.items)

  pub own_at : (p : ℕ) → p < length (own_rows own) → get_or (own_rows own) p [] ≡ filter (λ r. r.place == p) own.rows.items
  own_at p inside = grind (arith, own_size, get_or-map-range_with_len)

  -- the same where it is known how many providers there are
  pub own_lists : (count : ℕ) → length (own_rows own) ≡ count → own_rows own ≡ map (λ p. filter (λ r. r.place == p) own.rows.items) (range_with_len 0 count)
  own_lists count e = ap (λ n. map (λ p. filter (λ (r : TableRow K X). r.place == p) own.rows.items) (range_with_len 0 n)) (sym own_size ∙ e)

-- one key more
pub key_more : {K X : Type 0} (R : K → K → Type 0) (rows : List (TableRow K X)) (i : ℕ) (row : TableRow K X) (keys : List K) (key : K) → i < length rows → row ≡ get_or rows i row
    → AllZip R (map (λ r. r.key) (take i rows)) keys → R row.key key → AllZip R (map (λ r. r.key) (take (i + 1) rows)) (keys ++ key ∷ [])
key_more {K} {X} R rows i row keys key inside is before here =
    subst (λ (l : List K). AllZip R l (keys ++ key ∷ [])) (sym (ap (map (λ (r : TableRow K X). r.key)) (take_more rows i row inside) ∙ map-append (λ (r : TableRow K X). r.key) (take i rows) (get_or rows i row ∷ [])))
    (AllZip-push R (map (λ r. r.key) (take i rows)) keys (get_or rows i row).key key before (subst (λ (r : TableRow K X). R r.key key) is here))

-- the keys of one provider more
pub list_more : {K X : Type 0} (R : K → K → Type 0) (own : ℕ → List (TableRow K X)) (place : ℕ) (lists : List (List K)) (keys : List K)
    → AllZip (AllZip R) (map (map (λ r. r.key)) (map own (range_with_len 0 place))) lists → AllZip R (map (λ r. r.key) (own place)) keys
    → AllZip (AllZip R) (map (map (λ r. r.key)) (map own (range_with_len 0 (place + 1)))) (lists ++ keys ∷ [])
list_more {K} {X} R own place lists keys before here =
    subst (λ (l : List (List K)). AllZip (AllZip R) l (lists ++ keys ∷ []))
    (sym (ap (map (map (λ (r : TableRow K X). r.key))) (map-range_with_len_more own 0 place place (omega arith)) ∙ map-append (map (λ (r : TableRow K X). r.key)) (map own (range_with_len 0 place)) (own place ∷ [])))
    (AllZip-push (AllZip R) (map (map (λ r. r.key)) (map own (range_with_len 0 place))) lists (map (λ r. r.key) (own place)) keys before here)

-- what clones show is what was cloned shows
zip_shown : {X Y : Type 0} (R : X → X → Type 0) (show : X → Y) → ((x y : X) → R x y → show y ≡ show x) → (xs ys : List X) → AllZip R xs ys → map show ys ≡ map show xs
zip_shown R show same [] [] all = refl
zip_shown R show same [] (y ∷ ys) all = absurd all
zip_shown R show same (x ∷ xs) [] all = absurd all
zip_shown R show same (x ∷ xs) (y ∷ ys) all = ap₂ (λ a l. a ∷ l) (same x y all.0) (zip_shown R show same xs ys all.1)

-- the same of lists of lists
pub lists_shown : {X Y : Type 0} (R : X → X → Type 0) (show : X → Y) → ((x y : X) → R x y → show y ≡ show x) → (xs ys : List (List X)) → AllZip (AllZip R) xs ys → map (map show) ys ≡ map (map show) xs
lists_shown R show same = zip_shown (AllZip R) (map show) (λ xs ys. zip_shown R show same xs ys)
