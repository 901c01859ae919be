-- Rows in order, and the first fault of their records.
use Rattle.ac_tables.proofs.Common.{◌≡◌, ◌∙◌, ◌+◌, ◌<◌, ◌≤◌, ◌++◌, ℕ, Bool, true, false, List, [], ◌∷◌, map, length, get_or, take, Option, Some, None, refl, sym, ap, ap₂, subst, arith, rules, inl, inr, not, ◌&&◌, Ordering, nat_cmp, ordering_then, is_eq, IsTotalOrder, list_any, IsPermutation, AreTiesRising, Result, Ok, Err, RecordFault, is_past, ◌-◌, cases_lt, cases_Bool, append-nil, length-append, length-map, get_or-map, get_or_append_left, length-take-le, list_any_at, get_or-append_seam, All-permutation, length_permutation, Row, Check, Tells, rows_fault, row_ties, row_shown, turned_cmp, IsInOrder, IsLeast, IsLeastRepeat, IsKeyed, IsTable, TableRow, Table, TableKind, first_failing, IsDistinct-from_sorted, eq_by_cmp_equiv, IsPermutation-sym}
use Rattle.std.specs.List.{IsDistinct}
use Rattle.std.proofs.lemmas.List.{get_or-take, take-map, take-append-le, take_all}
use Rattle.std.proofs.lemmas.List.Folds.{list_any_none}
use Rattle.ac_tables.specs.Reader.TableRows.{Stops, IsReadUpTo}
use Rattle.ac_tables.specs.Tables.Checks.{fault_at}
use Rattle.ac_tables.specs.declared.fault.RecordFault.TheVariants as record_fault
use Rattle.ac_tables.specs.declared.fault.TableKind.TheVariants as kind
use Rattle.ac_base.proofs.Small.{clash}
use Rattle.ac_tables.specs.declared.fault.TableFault.TheVariants as fault
use Rattle.std.proofs.lemmas.Bool.{and_left, and_right, false_from_ne_true}
use Rattle.std.proofs.lemmas.List.Elements.{All-from_get_or}
use Rattle.std.proofs.lemmas.Map.Keys.{apart_from_distinct, IsDistinct-IsPermutation}
use Rattle.ac_tables.proofs.Gathered.RowOrder.{row_total, rows_strict, same_ties, test_same, turned_total}
use Rattle.ac_base.proofs.Sorted.SearchFacts.{any_map}
use Rattle.ac_tables.proofs.Sorted.SortedTies.{Sorting, none_sooner, repeated, with_head}
use Rattle.ac_tables.proofs.Gathered.JoinedFault.{checks_at, joined_none, joined_at}

no_more : (alone : Row → List Check) (past : Bool) (left : List Row) (u : Unit {0}) → past ≡ false → Stops alone past left (Ok u) → left ≡ []
no_more alone past [] u e h = refl
no_more alone past (row ∷ rows) u e h = absurd (cc (e, h))

none_past : (most : Option ℕ) → is_past most 0 ≡ false
none_past None = refl
none_past (Some m) = search (arith, rules)

module _ {V K X : Type 0} (t : Table) (says : Row → V) (checks : List V → Row → List Check) (alone : Row → List Check) (same : V → V → Bool) (shown : ℕ → K → X → V) (count : ℕ) (unique : Bool) (most : Option ℕ)
    (cmp : K → K → Ordering) (total : IsTotalOrder cmp) (keyed : IsKeyed most says checks alone same)
    (apart : (p q : ℕ) (k l : K) (x y : X) → p < count → q < count → same (shown q l y) (shown p k x) ≡ (unique && is_eq (ordering_then (nat_cmp p q) (cmp k l))))
    (all : List Row) (read rows : List (TableRow K X)) (ended : Result (Unit {0}) RecordFault) (r : IsReadUpTo says alone shown count most all read ended)
    (order : IsInOrder cmp rows) (ties : AreTiesRising (row_ties cmp) (λ (a : TableRow K X). a.number) rows) (moved : IsPermutation read rows) where
  sized : length read ≡ length r.so_far.done
  sized = sym (length-map read (row_shown shown)) ∙ ap length r.so_far.said ∙ length-map r.so_far.done says

  -- the record at a place, and what the rows say of it and of those before it
  row_at : (i : ℕ) → i < length read → get_or all i [] ≡ get_or r.so_far.done i []
  row_at i h = ap (λ l. get_or l i []) r.so_far.whole ∙ get_or_append_left r.so_far.done r.left [] i (omega (arith, h, sized))

  alone_at : (i : ℕ) → i < length read → first_failing (alone (get_or all i [])) ≡ None
  alone_at i h = ap (λ row. first_failing (alone row)) (row_at i h) ∙ r.so_far.fine i [] (omega (arith, h, sized))

  says_at : (i : ℕ) (d : TableRow K X) → i < length read → says (get_or all i []) ≡ row_shown shown (get_or read i d)
  says_at i d h =
      ap says (row_at i h) ∙ sym (get_or-map says r.so_far.done i [] (row_shown shown d) (omega (arith, h, sized)))
      ∙ ap (λ l. get_or l i (row_shown shown d)) (sym r.so_far.said) ∙ get_or-map (row_shown shown) read i d (row_shown shown d) h

  front : (i : ℕ) → i ≤ length read → map says (take i all) ≡ map (row_shown shown) (take i read)
  front i h =
      ap (λ l. map says (take i l)) r.so_far.whole ∙ ap (map says) (take-append-le i r.so_far.done r.left (omega (arith, h, sized)))
      ∙ sym (take-map says i r.so_far.done) ∙ ap (take i) (sym r.so_far.said) ∙ take-map (row_shown shown) i read

  any_before : (i : ℕ) (d : TableRow K X) → i < length read
      → list_any (same (says (get_or all i []))) (map says (take i all)) ≡ list_any (λ (a : TableRow K X). same (row_shown shown (get_or read i d)) (row_shown shown a)) (take i read)
  any_before i d h = grind (arith, any_map, front, says_at)

  same_at : (i j : ℕ) (d : TableRow K X) → i < j → j < length read
      → same (row_shown shown (get_or read j d)) (row_shown shown (get_or (take j read) i d)) ≡ (unique && row_ties cmp (get_or read i d) (get_or read j d))
  same_at i j d less h = grind (arith, get_or-take)

  -- none of the earlier rows has the key of this one
  abbrev IsNew : ℕ → Type 0
  IsNew i = (k : ℕ) (d : TableRow K X) → k < i → (unique && row_ties cmp (get_or read k d) (get_or read i d)) ≡ false

  new_at : (i : ℕ) → i < length read → IsNew i → list_any (same (says (get_or all i []))) (map says (take i all)) ≡ false
  new_at i inside new = with_head read _ (omega (arith, inside)) (λ d.
      any_before i d inside
      ∙ list_any_none _ (take i read) (All-from_get_or (λ (a : TableRow K X). same (row_shown shown (get_or read i d)) (row_shown shown a) ≡ false) (take i read) d (λ k below.
      let here : k < i = omega (arith, below, length-take-le i read (omega arith)) in
      same_at k i d here inside ∙ new k d here)))

  -- how many records stand before one, and with it
  before_past : (i : ℕ) → i < length read → is_past most (length (map says (take i all)) + 1) ≡ is_past most (i + 1)
  before_past i inside = grind (arith, length-append, length-map, length-take-le, sized)

  fine_at : (i : ℕ) → i < length read → is_past most (i + 1) ≡ false → IsNew i → first_failing (checks_at t says checks all i) ≡ None
  fine_at i inside within new = keyed.fresh (map says (take i all)) (get_or all i []) (new_at i inside new) (before_past i inside ∙ within) ∙ alone_at i inside

  -- no two tie
  all_new : (unique ≡ true → IsLeastRepeat cmp rows None) → (i : ℕ) → i < length read → IsNew i
  all_new once i inside = λ k d less. elim (cases_Bool unique) [
    | inl is ↦
        let strict = subst (λ (tie : TableRow K X → TableRow K X → Bool). IsDistinct tie rows) (test_same rows order) (IsDistinct-from_sorted (turned_cmp order.turn cmp) rows (rows_strict total rows order (once is))) in
        let flips = (eq_by_cmp_equiv (row_total {X = X} total)).symm in
        and_right _ _ (apart_from_distinct (row_ties cmp) read k i d (IsDistinct-IsPermutation (row_ties cmp) flips rows read (IsPermutation-sym read rows moved) strict) less inside)
    | inr not ↦ and_left _ _ not
  ]

  -- the rows that were read are not too many
  abbrev pub Fits : Type 0
  Fits = is_past most (length rows) ≡ false

  read_past : is_past most (length rows) ≡ is_past most (length read)
  read_past = ap (is_past most) (length_permutation read rows moved)

  -- then no record of them has a fault
  fine_all : Fits → (unique ≡ true → IsLeastRepeat cmp rows None) → (i : ℕ) → i < length read → first_failing (checks_at t says checks all i) ≡ None
  fine_all fits once i inside = grind (arith, all_new, cases_lt, fine_at, read_past)

  nothing_left : (u : Unit {0}) → ended ≡ Ok u → Fits → r.left ≡ []
  nothing_left u is fits = no_more alone (is_past most (length read)) r.left u (sym read_past ∙ fits) (subst (λ (o : Result (Unit {0}) RecordFault). Stops alone (is_past most (length read)) r.left o) is r.stopped)

  whole : (u : Unit {0}) → ended ≡ Ok u → Fits → r.so_far.done ≡ all
  whole u is fits = sym (append-nil r.so_far.done) ∙ ap (λ l. r.so_far.done ++ l) (sym (nothing_left u is fits)) ∙ sym r.so_far.whole

  pub gathered_fine : (u : Unit {0}) → ended ≡ Ok u → Fits → (unique ≡ true → IsLeastRepeat cmp rows None) → rows_fault t says checks [] all ≡ None
  gathered_fine u is fits once = joined_none t says checks all (λ i h. fine_all fits once i (omega (arith, h, sized, ap length (whole u is fits))))

  pub gathered_table : (u : Unit {0}) → ended ≡ Ok u → Fits → (unique ≡ true → IsLeastRepeat cmp rows None) → IsTable cmp shown count unique (map says all) rows
  gathered_table u is fits once =
      record {
        read = read;
        shows = r.so_far.said ∙ ap (map says) (whole u is fits);
        same = moved;
        order = order;
        numbered = r.so_far.numbered;
        inside = All-permutation (λ (a : TableRow K X). a.place < count) read rows moved r.so_far.inside;
        strict = λ one. rows_strict total rows order (once one);
      }

  -- the fault that a record has alone
  gathered_alone : (k : TableKind) (n : ℕ) → ended ≡ Err (record_fault.Kind k) → Fits → (unique ≡ true → IsLeastRepeat cmp rows None) → n ≡ length read + 2 → rows_fault t says checks [] all ≡ Some (fault.At t n k)
  gathered_alone k n is fits once e = at r.left (subst (λ (o : Result (Unit {0}) RecordFault). Stops alone (is_past most (length read)) r.left o) is r.stopped) refl
    where
      at : (left : List Row) → Stops alone (is_past most (length read)) left (Err (record_fault.Kind k)) → r.left ≡ left → rows_fault t says checks [] all ≡ Some (fault.At t n k)
      at [] h next = absurd h
      at (row ∷ after) h next =
          let parts : all ≡ r.so_far.done ++ row ∷ after = r.so_far.whole ∙ ap (λ l. r.so_far.done ++ l) next in
          let here : get_or all (length r.so_far.done) [] ≡ row = ap (λ l. get_or l (length r.so_far.done) []) parts ∙ get_or-append_seam r.so_far.done row after [] in
          let before : take (length r.so_far.done) all ≡ r.so_far.done =
          ap (take (length r.so_far.done)) parts ∙ take-append-le _ r.so_far.done (row ∷ after) (omega arith) ∙ take_all (length r.so_far.done) r.so_far.done (omega arith) in
          joined_at t says checks all (length r.so_far.done) n k (omega (arith, ap length parts, length-append r.so_far.done (row ∷ after))) (omega (arith, e, sized))
          (λ i lower. fine_all fits once i (omega (arith, lower, sized)))
          (ap₂ (λ l row. first_failing (checks (map says l) row)) before here ∙ keyed.first r.so_far.done row k r.so_far.fine h)

  pub gathered_told : (e : RecordFault) (n : ℕ) → ended ≡ Err e → Fits → (unique ≡ true → IsLeastRepeat cmp rows None) → n ≡ length read + 2 → Tells (rows_fault t says checks [] all) (fault_at t n e)
  gathered_told (record_fault.Kind k) n is fits once e = gathered_alone k n is fits once e
  gathered_told record_fault.NoMemory n is fits once e = tt

  -- the last record that was read is one too many
  pub gathered_past : (n : ℕ) → is_past most (length rows) ≡ true → (unique ≡ true → IsLeastRepeat cmp rows None) → n ≡ length read + 1 → rows_fault t says checks [] all ≡ Some (fault.At t n kind.TooManyProviders)
  gathered_past n past once e = elim (cases_lt 0 (length read)) [
    | inl some ↦
        let last = length read - 1 in
        let inside : last < length read = omega (arith, some) in
        let next : last + 1 ≡ length read = omega (arith, some) in
        joined_at t says checks all last n kind.TooManyProviders (omega (arith, inside, sized, ap length r.so_far.whole, length-append r.so_far.done r.left)) (omega (arith, e, next))
        (λ i lower. fine_at i (omega (arith, lower, inside)) (r.so_far.within (i + 1) (omega (arith, lower, next))) (all_new once i (omega (arith, lower, inside))))
        (keyed.full (map says (take last all)) (get_or all last []) (alone_at last inside) (new_at last inside (all_new once last inside))
        (before_past last inside ∙ ap (is_past most) next ∙ sym read_past ∙ past))
    | inr none ↦
        let empty : length read ≡ 0 = omega (arith, none) in
        absurd (clash _ (none_past most) (ap (is_past most) (sym empty) ∙ sym read_past ∙ past))
  ]

  -- a key that was there
  pub gathered_again : (n : ℕ) → unique ≡ true → IsLeastRepeat cmp rows (Some n) → rows_fault t says checks [] all ≡ Some (fault.At t n kind.Duplicate)
  gathered_again n is least =
      let size = length_permutation read rows moved in
      with_head read (rows_fault t says checks [] all ≡ Some (fault.At t n kind.Duplicate)) (omega (arith, least.1.1, size)) (λ d.
      let number = λ (a : TableRow K X). a.number in
      let by_turns : AreTiesRising (λ (a b : TableRow K X). is_eq (turned_cmp order.turn cmp a b)) (λ a. a.number) rows =
      subst (λ (tie : TableRow K X → TableRow K X → Bool). AreTiesRising tie (λ (a : TableRow K X). a.number) rows) (sym (test_same rows order)) ties in
      let sorting : Sorting (turned_cmp order.turn cmp) (λ (a : TableRow K X). a.number) read rows =
      record { total = turned_total {X = X} order.turn total; sorted = order.sorted; ties = by_turns; same = moved; numbered = r.so_far.numbered } in
      let least_turned = subst (λ (tie : TableRow K X → TableRow K X → Bool). IsLeast tie (λ (a : TableRow K X). a.number) rows (Some n)) (sym (test_same rows order)) least in
      let (i, j, less, inside, at, turned) = repeated (turned_cmp order.turn cmp) number read rows sorting n least_turned d in
      let tied = sym (same_ties rows order (get_or read i d) (get_or read j d)) ∙ turned in
      let sooner = none_sooner (turned_cmp order.turn cmp) number read rows sorting n least_turned in
      let within : j < length all = omega (arith, inside, sized, ap length r.so_far.whole, length-append r.so_far.done r.left) in
      joined_at t says checks all j n kind.Duplicate within at
      (λ p lower. fine_at p (omega arith) (r.so_far.within (p + 1) (omega arith)) (λ k e below. and_right _ _ (false_from_ne_true _ (λ (tie : row_ties cmp (get_or read k e) (get_or read p e) ≡ true). omega (arith, sooner k p e below (omega arith) (same_ties rows order (get_or read k e) (get_or read p e) ∙ tie), at, lower)))))
      (keyed.again (map says (take j all)) (get_or all j []) (alone_at j inside) (any_before j d inside
      ∙ list_any_at _ (take j read) i d (omega (arith, less, length-take-le j read (omega arith))) (same_at i j d less inside ∙ ap₂ (λ a b. a && b) is tied))))

-- no more rows than records
pub rows_read : {V K X : Type 0} (says : Row → V) (alone : Row → List Check) (shown : ℕ → K → X → V) (count : ℕ) (most : Option ℕ) (all : List Row) (read : List (TableRow K X)) (ended : Result (Unit {0}) RecordFault)
    → IsReadUpTo says alone shown count most all read ended → length read ≤ length all
rows_read says alone shown count most all read ended r = grind (arith, length-append, length-map)
