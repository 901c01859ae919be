-- The keys of one provider's rows, of which equal ones are left out, are the set of all that is said of it.
use Rattle.ac_tables.proofs.Common.{◌≡◌, ◌∙◌, ◌<◌, ℕ, Bool, true, List, map, sym, ap, subst, ◌==◌, Ordering, Equal, nat_cmp, IsTotalOrder, Contains, dedup, filter, IsStrictlySortedBy, map-id, eq_by_cmp_equiv, IsPermutation-sym, Contains-permutation, All-permutation, exact_unsigned, rising, row_ties, row_shown, turned_cmp, IsInOrder, IsTable, TableRow}
use Rattle.std.proofs.Common.{Any}
use Rattle.std.proofs.lemmas.List.Kept.{IsStrictlySortedBy-dedup, Any-dedup, Contains-from_dedup}
use Rattle.ac_tables.proofs.Gathered.RowOrder.{both_equal, row_total, same_ties, turned_total}
use Rattle.ac_base.proofs.Sorted.SameItems.{is_rising, map_has}
use Rattle.ac_tables.proofs.Gathered.ProviderRows.{filter_has, has_filter, has_map, own_moved, own_keys_sorted, of_provider}
use Rattle.ac_base.proofs.Sorted.SearchFacts.{in_order}

-- what is left of rows in order, of which those that tie are left out, rises
once_strict : {K X : Type 0} (cmp : K → K → Ordering) → IsTotalOrder cmp → (rows : List (TableRow K X)) (o : IsInOrder cmp rows) → IsStrictlySortedBy (turned_cmp o.turn cmp) (dedup (row_ties cmp) rows)
once_strict {K} {X} cmp total rows o = IsStrictlySortedBy-dedup (turned_total {X = X} o.turn total) {E = row_ties cmp} (λ a b. sym (same_ties rows o a b)) rows o.sorted

pub once_in_order : {K X : Type 0} (cmp : K → K → Ordering) → IsTotalOrder cmp → (rows : List (TableRow K X)) → IsInOrder cmp rows → IsInOrder cmp (dedup (row_ties cmp) rows)
once_in_order {K} {X} cmp total rows o = record {
  turn = o.turn;
  apart = o.apart;
  sorted = in_order (λ (r : TableRow K X). r) (turned_total {X = X} o.turn total) (dedup (row_ties cmp) rows) (rw (map-id (dedup (row_ties cmp) rows)) (once_strict cmp total rows o));
}

module _ {V K X Y : Type 0} (cmp : K → K → Ordering) (total : IsTotalOrder cmp) (order : Y → Y → Ordering) (order_total : IsTotalOrder order) (exact : (x y : Y) → order x y ≡ Equal → x ≡ y)
    (bytes : K → Y) (same : (a b : K) → cmp a b ≡ order (bytes a) (bytes b))
    (shown : ℕ → K → X → V) (count : ℕ) (unique : Bool) (said : List V) (rows : List (TableRow K X)) (t : IsTable cmp shown count unique said rows)
    (provider : V → ℕ) (part : V → Y) (p id : ℕ)
    (whose : (r : TableRow K X) → r.place < count → (provider (row_shown shown r) == id) ≡ (r.place == p))
    (what : (r : TableRow K X) → part (row_shown shown r) ≡ bytes r.key) where
  abbrev here : TableRow K X → Bool
  here r = r.place == p

  abbrev shows : TableRow K X → Y
  shows r = bytes r.key

  abbrev once : List (TableRow K X)
  once = dedup (row_ties cmp) rows

  strict : IsStrictlySortedBy (turned_cmp t.order.turn cmp) (dedup (row_ties cmp) rows)
  strict = once_strict cmp total rows t.order

  -- a row that ties with another is of the same provider and shows the same
  alike : (r q : TableRow K X) → row_ties cmp r q ≡ true → (r.place ≡ q.place) × (shows r ≡ shows q)
  alike r q e = let b = both_equal (nat_cmp r.place q.place) (cmp r.key q.key) e in (exact_unsigned _ _ b.0, exact _ _ (sym (same r.key q.key) ∙ b.1))

  there : (y : Y) → Contains (map shows (filter here once)) y → Contains (map shows (filter here t.read)) y
  there = own_moved here shows once t.read (λ r c. Contains-permutation rows t.read r (IsPermutation-sym t.read rows t.same) (Contains-from_dedup (row_ties cmp) rows r c))

  back : (y : Y) → Contains (map shows (filter here t.read)) y → Contains (map shows (filter here once)) y
  back y c =
      let r = has_map shows (filter here t.read) y c in
      let f = has_filter here t.read r.0 r.1 in
      let in_rows = Contains-permutation t.read rows r.0 t.same f.0 in
      from r.0 r.2 f.1 (Any-dedup (eq_by_cmp_equiv (row_total {X = X} total)) rows r.0 in_rows)
    where
      from : (r : TableRow K X) → shows r ≡ y → here r ≡ true → Any (λ q. row_ties cmp r q ≡ true) once → Contains (map shows (filter here once)) y
      from r is e (k, q, inside, at, tied) =
          let s = alike r q tied in
          subst (λ (z : Y). Contains (map shows (filter here once)) z) (sym s.1 ∙ is)
          (map_has shows (filter here once) q (filter_has here once q (k, inside, at) (ap (λ n. n == p) (sym s.0) ∙ e)))

  pub shown_set : map shows (filter here once) ≡ rising order (map part (filter (λ v. provider v == id) said))
  shown_set =
      let inside = All-permutation (λ (r : TableRow K X). r.place < count) rows t.read (IsPermutation-sym t.read rows t.same) t.inside in
      is_rising order_total exact (map shows (filter here once)) (map shows (filter here t.read)) (own_keys_sorted cmp order bytes same t.order.turn p once strict) there back
      ∙ ap (rising order) (sym (of_provider shown count provider part shows p id whose what t.read inside) ∙ ap (λ vs. map part (filter (λ v. provider v == id) vs)) t.shows)
