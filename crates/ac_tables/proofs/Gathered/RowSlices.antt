-- The rows of one provider, cut out of rows in order.
use Rattle.ac_tables.proofs.Common.{◌≡◌, ◌≢◌, ◌∙◌, ◌+◌, ◌-◌, ◌<◌, ◌≤◌, ◌⊎◌, ℕ, zero, suc, Bool, true, false, List, [], ◌∷◌, length, get_or, take, drop, refl, sym, ap, subst, arith, inl, inr, ◌==◌, filter, cases_lt, IsGrouped, IsRun, IsSpan, TableRow}
use Rattle.std.proofs.Common.{length-set, set}
use Rattle.std.proofs.lemmas.Bool.{cases_eq}
use Rattle.std.proofs.lemmas.List.{get_or-set_other, get_or-set_same}
use Rattle.ac_tables.specs.declared.reader.provider_rows.Span.{Span}
use Rattle.ac_tables.proofs.Gathered.RowRuns.{IsEdge}
use Rattle.ac_base.proofs.Small.{equal, differ}

module _ {X : Type 0} (p : X → Bool) where
  none_kept : (xs : List X) → ((k : ℕ) (d : X) → k < length xs → p (get_or xs k d) ≡ false) → filter p xs ≡ []
  none_kept [] h = refl
  none_kept (x ∷ xs) h = rw (h zero x (omega arith)) (none_kept xs (λ k d inside. h (suc k) d (omega arith)))

  -- what passes stands first
  front_kept : (xs : List X) (b : ℕ) → b ≤ length xs → ((k : ℕ) (d : X) → k < b → p (get_or xs k d) ≡ true)
      → ((k : ℕ) (d : X) → b ≤ k → k < length xs → p (get_or xs k d) ≡ false) → take b xs ≡ filter p xs
  front_kept xs zero le yes-below not-above = sym (none_kept xs (λ k d inside. not-above k d (omega arith) inside))
  front_kept [] (suc b) le yes-below not-above = absurd (omega (arith, le))
  front_kept (x ∷ xs) (suc b) le yes-below not-above =
      rw (yes-below zero x (omega arith))
      (ap (λ l. x ∷ l) (front_kept xs b (omega arith) (λ k d h. yes-below (suc k) d (omega arith)) (λ k d h inside. not-above (suc k) d (omega arith) (omega arith))))

  -- what passes stands from a to b
  pub middle_kept : (xs : List X) (a b : ℕ) → a ≤ b → b ≤ length xs → ((k : ℕ) (d : X) → k < a → p (get_or xs k d) ≡ false)
      → ((k : ℕ) (d : X) → a ≤ k → k < b → p (get_or xs k d) ≡ true) → ((k : ℕ) (d : X) → b ≤ k → k < length xs → p (get_or xs k d) ≡ false)
      → take (b - a) (drop a xs) ≡ filter p xs
  middle_kept xs zero b le inside low mid high = grind (arith, front_kept)
  middle_kept [] (suc a) b le inside low mid high = absurd (omega (arith, le, inside))
  middle_kept (x ∷ xs) (suc a) zero le inside low mid high = absurd (omega (arith, le))
  middle_kept (x ∷ xs) (suc a) (suc b) le inside low mid high =
      let less : suc b - suc a ≡ b - a = omega arith in
      rw (low zero x (omega arith))
      (ap (λ n. take n (drop a xs)) less
      ∙ middle_kept xs a b (omega arith) (omega arith) (λ k d h. low (suc k) d (omega arith)) (λ k d h i. mid (suc k) d (omega arith) (omega arith)) (λ k d h i. high (suc k) d (omega arith) (omega arith)))

-- The rows of a provider stand from one place up to another, and nowhere else before a third.
pub record IsSpanUpTo {K X : Type 0} (rows : List (TableRow K X)) (before place from end : ℕ) : Type 0 where
  pub order : from ≤ end
  pub inside : end ≤ before
  pub own : (k : ℕ) (d : TableRow K X) → from ≤ k → k < end → (get_or rows k d).place ≡ place
  pub apart : (k : ℕ) (d : TableRow K X) → k < before → (k < from) ⊎ (end ≤ k) → (get_or rows k d).place ≢ place

module _ {K X : Type 0} (rows : List (TableRow K X)) where
  pub span_kept : (p from end : ℕ) → IsSpan rows p from end → take (end - from) (drop from rows) ≡ filter (λ (r : TableRow K X). r.place == p) rows
  span_kept p from end s =
      middle_kept (λ (r : TableRow K X). r.place == p) rows from end s.order s.inside
      (λ k d h. differ _ p (s.below k d h))
      (λ k d h i. equal _ p (s.own k d h i))
      (λ k d h i. differ _ p (s.above k d h i))

  pub whole_span : (p from end before : ℕ) → before ≡ length rows → IsSpanUpTo rows before p from end → IsSpan rows p from end
  whole_span p from end before all s = record {
    order = s.order;
    inside = let i = s.inside in omega (arith, i, all);
    own = s.own;
    below = λ k d h. let i = s.inside in let o = s.order in s.apart k d (omega (arith, h, o, i)) (inl h);
    above = λ k d h i. s.apart k d (omega (arith, i, all)) (inr h);
  }

  module _ (from end : ℕ) (some : from < end) (run : IsRun rows from end) where
    -- a run of another provider
    pub span_stays : (p q a b : ℕ) → ((d : TableRow K X) → (get_or rows from d).place ≡ q) → p ≢ q → IsSpanUpTo rows from p a b → IsSpanUpTo rows end p a b
    span_stays p q a b is other s = record {
      order = s.order;
      inside = let i = s.inside in omega (arith, i, some);
      own = s.own;
      apart = λ k d h out same. elim (cases_lt k from) [
        | inl low ↦ s.apart k d low out same
        | inr high ↦ other (sym same ∙ run k d high h ∙ is d)
      ];
    }

    -- a run of the provider itself, whose rows stand together
    pub span_here : (q : ℕ) → ((d : TableRow K X) → (get_or rows from d).place ≡ q) → IsGrouped rows → IsEdge rows from → end ≤ length rows → IsSpanUpTo rows end q from end
    span_here q is grouped edge inside = record {
      order = omega (arith, some);
      inside = omega arith;
      own = λ k d h i. run k d h i ∙ is d;
      apart = λ k d h out same. elim out [
        | inl low ↦
            let next : from - 1 + 1 ≡ from = omega (arith, low) in
            let whole : (get_or rows k d).place ≡ (get_or rows from d).place = same ∙ sym (is d) in
            edge (from - 1) d next (omega (arith, some, inside)) (grouped k (from - 1) from d (omega (arith, low)) (omega arith) (omega (arith, some, inside)) whole ∙ whole)
        | inr high ↦ omega (arith, h, high)
      ];
    }

    -- the spans with this run
    pub span_set : (spans : List Span) (q : ℕ) → ((d : TableRow K X) → (get_or rows from d).place ≡ q) → IsGrouped rows → IsEdge rows from → end ≤ length rows
        → ((p : ℕ) (d : Span) → p < length spans → IsSpanUpTo rows from p (get_or spans p d).from (get_or spans p d).end)
        → (p : ℕ) (d : Span) → p < length (set spans q (record { from = from; end = end }))
        → IsSpanUpTo rows end p (get_or (set spans q (record { from = from; end = end })) p d).from (get_or (set spans q (record { from = from; end = end })) p d).end
    span_set spans q is grouped edge fits old p d inside =
        let new : Span = record { from = from; end = end } in
        let here : p < length spans = omega (arith, inside, length-set spans q new) in
        elim (cases_eq p q) [
          | inl e ↦
              subst (λ (s : Span). IsSpanUpTo rows end p s.from s.end) (sym (ap (λ j. get_or (set spans q new) j d) e ∙ get_or-set_same spans q new d (omega (arith, e, here))))
              (subst (λ (j : ℕ). IsSpanUpTo rows end j from end) (sym e) (span_here q is grouped edge fits))
          | inr ne ↦
              subst (λ (s : Span). IsSpanUpTo rows end p s.from s.end) (sym (get_or-set_other spans q p new d ne)) (span_stays p q _ _ is ne (old p d here))
        ]

  -- a run that no row of its provider goes past
  pub edge_here : (from end : ℕ) → from < end → IsRun rows from end → ((d : TableRow K X) → end < length rows → (get_or rows end d).place ≢ (get_or rows from d).place) → IsEdge rows end
  edge_here from end some run apart k d next less same = apart d less (sym same ∙ run k d (omega (arith, some, next)) (omega (arith, next)))
