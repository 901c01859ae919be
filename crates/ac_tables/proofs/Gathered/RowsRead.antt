-- Reading rows one by one, up to the first that has a fault of its own.
use Rattle.ac_tables.proofs.Common.{◌≡◌, ◌∙◌, ◌+◌, ◌<◌, ◌++◌, ℕ, zero, suc, false, List, [], ◌∷◌, map, length, get_or, Option, None, sym, ap, ap₂, subst, arith, inl, inr, cases_lt, append_assoc, length-append, length-map, map-append, Row, Check, first_failing, IsReadSoFar, is_past, row_shown, TableRow}
use Rattle.std.proofs.lemmas.List.Elements.{All-push}

-- what holds of each item and its place, after one more
each_more : {X : Type 0} (P : ℕ → X → Type 0) (xs : List X) (x : X) → ((k : ℕ) (d : X) → k < length xs → P k (get_or xs k d)) → P (length xs) x
    → (k : ℕ) (d : X) → k < length (xs ++ x ∷ []) → P k (get_or (xs ++ x ∷ []) k d)
each_more P [] x h here zero d below = here
each_more P [] x h here (suc k) d below = absurd (omega (arith, below))
each_more P (y ∷ xs) x h here zero d below = h zero d (omega arith)
each_more P (y ∷ xs) x h here (suc k) d below = each_more (λ j. P (suc j)) xs x (λ (j : ℕ) (e : _) (lt : j < length xs). h (suc j) e (omega arith)) here k d (omega (arith, below))

module _ {V K X : Type 0} (says : Row → V) (alone : Row → List Check) (shown : ℕ → K → X → V) (count : ℕ) (most : Option ℕ) where
  pub read_more : (all left after : List Row) (row : Row) (number more : ℕ) (rows room new : List (TableRow K X)) (one : TableRow K X)
      → IsReadSoFar says alone shown count most all left number rows → left ≡ row ∷ after → first_failing (alone row) ≡ None → shown one.place one.key one.value ≡ says row
      → one.place < count → one.number ≡ number → more ≡ number + 1 → room ≡ rows → new ≡ room ++ one ∷ [] → is_past most (length rows) ≡ false
      → IsReadSoFar says alone shown count most all after more new
  read_more all left after row number more rows room new one r next fine value placed at up stays grown below_most =
      let pushed : new ≡ rows ++ one ∷ [] = grown ∙ ap (λ l. l ++ one ∷ []) stays in
      let counted : number ≡ length r.done + 2 = r.counted in
      let longer : length (r.done ++ row ∷ []) ≡ length r.done + 1 = length-append r.done (row ∷ []) in
      let sized : length rows ≡ length r.done = sym (length-map rows (row_shown shown)) ∙ ap length r.said ∙ length-map r.done says in
      record {
        done = r.done ++ row ∷ [];
        whole = r.whole ∙ ap (λ l. r.done ++ l) next ∙ sym (append_assoc r.done (row ∷ []) after);
        said = ap (map (row_shown shown)) pushed ∙ map-append (row_shown shown) rows (one ∷ []) ∙ ap₂ (λ a b. a ++ b ∷ []) r.said value ∙ sym (map-append says r.done (row ∷ []));
        fine = All-push (λ (w : Row). first_failing (alone w) ≡ None) r.done row r.fine fine;
        numbered = λ k d below. rw pushed (each_more (λ (j : ℕ) (w : TableRow K X). w.number ≡ j + 2) rows one r.numbered (at ∙ (omega arith)) k d (rw pushed at below));
        inside = λ k d below. rw pushed (each_more (λ (j : ℕ) (w : TableRow K X). w.place < count) rows one r.inside placed k d (rw pushed at below));
        counted = omega arith;
        within = λ n below. elim (cases_lt n (length rows)) [
          | inl less ↦ r.within n less
          | inr last ↦ (let same : length rows ≡ n = omega (arith, last, below, ap length pushed, length-append rows (one ∷ [])) in subst (λ m. is_past most m ≡ false) same below_most)
        ];
      }
