-- The first record of a marked row, and the first fault of a pass over all records.
use Rattle.ac_tables.proofs.Common.{◌≡◌, ◌∙◌, ◌+◌, ◌<◌, ℕ, zero, suc, Bool, true, false, List, [], ◌∷◌, length, get_or, Option, Some, None, refl, sym, ap, arith, inl, inr, option_map, cases_Bool, get_or-map, length-map, IsPermutation-sym, nat_cmp, first_failing, pass, IsFirst, ProviderRecord, no_record, provider_shown, row_shown, IsTable, Table, TableKind, TableRow, Named}
use Rattle.ac_tables.specs.declared.fault.TableFault.TheVariants as fault
use Rattle.ac_tables.proofs.Sorted.SortedTies.{moved}

module _ {X : Type 0} (t : Table) (k : TableKind) (fails : X → Bool) (d : X) where
  pass_none : (n : ℕ) (xs : List X) → ((i : ℕ) → i < length xs → fails (get_or xs i d) ≡ false) → first_failing (pass t k fails n xs) ≡ None
  pass_none n [] all = refl
  pass_none n (x ∷ xs) all = rw (all zero (omega arith)) (pass_none (n + 1) xs (λ i h. all (suc i) (omega arith)))

  pass_some : (n : ℕ) (xs : List X) (j : ℕ) → j < length xs → fails (get_or xs j d) ≡ true → ((i : ℕ) → i < j → fails (get_or xs i d) ≡ false)
      → first_failing (pass t k fails n xs) ≡ Some (fault.At t (n + j) k)
  pass_some n [] j h e before = absurd (omega (arith, h))
  pass_some n (x ∷ xs) zero h e before = let same : n ≡ n + zero = omega arith in rw e (ap (λ (m : ℕ). Some (fault.At t m k)) same)
  pass_some n (x ∷ xs) (suc j) h e before =
      let more : n + 1 + j ≡ n + suc j = omega arith in
      rw (before zero (omega arith)) (pass_some (n + 1) xs j (omega arith) e (λ i less. before (suc i) (omega arith)) ∙ ap (λ (m : ℕ). Some (fault.At t m k)) more)

module _ (said : List ProviderRecord) (rows : List (TableRow ℕ Named)) (t : IsTable nat_cmp provider_shown 1 true said rows) where
  -- what is said, in the order of its records
  pub size : length said ≡ length t.read
  size = ap length (sym t.shows) ∙ length-map t.read (row_shown provider_shown)

  pub said_at : (i : ℕ) (d : TableRow ℕ Named) (e : ProviderRecord) → i < length t.read → get_or said i e ≡ row_shown provider_shown (get_or t.read i d)
  said_at i d e h = ap (λ (l : List ProviderRecord). get_or l i e) (sym t.shows) ∙ get_or-map (row_shown provider_shown) t.read i d e h

  -- where a record's row stands, and a row's record
  pub row_of : (i : ℕ) (d : TableRow ℕ Named) → i < length t.read → (k : ℕ) × (k < length rows) × (get_or rows k d ≡ get_or t.read i d)
  row_of i d h = moved t.read rows t.same i d h

  pub record_of : (k : ℕ) (d : TableRow ℕ Named) → k < length rows → (i : ℕ) × (i < length t.read) × (get_or t.read i d ≡ get_or rows k d)
  record_of k d h = moved rows t.read (IsPermutation-sym t.read rows t.same) k d h

  -- the first fault of a pass is that of the first marked record
  pub passed : (tab : Table) (kind : TableKind) (fails : ProviderRecord → Bool) (marks : List Bool) (d : TableRow ℕ Named)
      → ((k : ℕ) → k < length rows → get_or marks k false ≡ fails (row_shown provider_shown (get_or rows k d)))
      → (first : Option ℕ) → IsFirst rows marks first → first_failing (pass tab kind fails 2 said) ≡ option_map (λ n. fault.At tab n kind) first
  passed tab kind fails marks d same None none =
      pass_none tab kind fails no_record 2 said (λ i h.
      let inside : i < length t.read = omega (arith, h, size) in
      let r = row_of i d inside in
      ap fails (said_at i d no_record inside ∙ ap (row_shown provider_shown) (sym r.2)) ∙ sym (same r.0 r.1) ∙ none r.0 d r.1)
  passed tab kind fails marks d same (Some n) least =
      let k = least.1.0 in
      let r = record_of least.1.0 d least.1.1 in
      let number : n ≡ r.0 + 2 = sym (least.1.2 d).1 ∙ ap (λ (x : TableRow ℕ Named). x.number) (sym r.2) ∙ t.numbered r.0 d r.1 in
      let here : fails (get_or said r.0 no_record) ≡ true =
      ap fails (said_at r.0 d no_record r.1 ∙ ap (row_shown provider_shown) r.2) ∙ sym (same least.1.0 least.1.1) ∙ (least.1.2 d).0 in
      let before : (i : ℕ) → i < r.0 → fails (get_or said i no_record) ≡ false = λ i less.
      (let first_in = r.1 in
      let inside : i < length t.read = omega (arith, less, first_in) in
      let q = row_of i d inside in
      let is = ap fails (said_at i d no_record inside ∙ ap (row_shown provider_shown) (sym q.2)) ∙ sym (same q.0 q.1) in
      elim (cases_Bool (get_or marks q.0 false)) [
        | inl found ↦ absurd (let low = least.0 q.0 d q.1 found in let at = ap (λ (x : TableRow ℕ Named). x.number) q.2 in let its = t.numbered i d inside in omega (arith, low, at, its, number, less))
        | inr not ↦ is ∙ not
      ]) in
      let up : 2 + r.0 ≡ n = omega (arith, number) in
      pass_some tab kind fails no_record 2 said r.0 (let i = r.1 in omega (arith, i, size)) here before ∙ ap (λ (m : ℕ). Some (fault.At tab m kind)) up
