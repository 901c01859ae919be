-- A text whose bytes all pass a test, from its parts or its pieces.
use Rattle.std.proofs.lemmas.Grind.{common_steps}
use Rattle.std.proofs.Common.{◌≡◌, ℕ, suc, ◌+◌, Bool, true, false, nat_eq, List, [], ◌∷◌, ◌++◌, length, drop, Some, None, IfSome, inl, inr, refl, sym, ap, ◌∙◌, take, take-append-drop, arith, if◌then◌else◌}
use Rattle.std.specs.Prelude.{not}
use Rattle.std.specs.List.{list_all, list_any, starts_with, before_first, after_first, position_or_len, slice_split, onto_first, AllByRecursion}
use Rattle.std.specs.Cmp.Lexicographic.{same_text}
use Rattle.std.proofs.lemmas.Bool.{and_from, and_parts, cases_Bool}
use Rattle.std.proofs.lemmas.List.Folds.{list_all-append}
use Rattle.ac_query.specs.Texts.{behind}

pub one_more : (n : ℕ) → 1 + n ≡ suc n
one_more n = omega arith

-- a weaker test
pub all_weaker : (p q : ℕ → Bool) → ((c : ℕ) → p c ≡ true → q c ≡ true) → (text : List ℕ) → list_all p text ≡ true → list_all q text ≡ true
all_weaker p q weaker [] all = refl
all_weaker p q weaker (c ∷ cs) all =
    let parts = and_parts (p c) (list_all p cs) all in
    and_from (q c) (list_all q cs) (weaker c parts.0) (all_weaker p q weaker cs parts.1)

pub none_of : (bad : ℕ → Bool) (text : List ℕ) → list_all (λ c. not (bad c)) text ≡ true → list_any bad text ≡ false
none_of bad [] all = refl
none_of bad (c ∷ cs) all = grind (arith, common_steps, none_of bad cs)

module _ (good : ℕ → Bool) where
  pub all_joined : (front end : List ℕ) → list_all good front ≡ true → list_all good end ≡ true → list_all good (front ++ end) ≡ true
  all_joined front end f e = list_all-append good front end ∙ and_from (list_all good front) (list_all good end) f e

  -- what stands behind a front
  pub all_fronted : (front text : List ℕ) → list_all good front ≡ true → IfSome (behind front text) (λ end. list_all good end ≡ true → list_all good text ≡ true)
  unfolding behind
  all_fronted front text plain = by_test (starts_with nat_eq text front) refl
    where
      by_test : (b : Bool) → starts_with nat_eq text front ≡ b
          → IfSome (if b then Some (drop (length front) text) else None) (λ end. list_all good end ≡ true → list_all good text ≡ true)
      by_test true is =
          let same : text ≡ front ++ drop (length front) text =
          sym (take-append-drop (length front) text) ∙ ap (λ l. l ++ drop (length front) text) (sym (same_text front (take (length front) text) (sym is))) in
          λ end. ap (list_all good) same ∙ all_joined front (drop (length front) text) plain end
      by_test false is = tt

  module _ (p : ℕ → Bool) (cut : (c : ℕ) → p c ≡ true → good c ≡ true) where
    -- the two sides of the first byte that passes p
    pub all_sides : (text : List ℕ) → list_all good (before_first p text) ≡ true → list_all good (after_first p text) ≡ true → list_all good text ≡ true
    all_sides [] before after = refl
    all_sides (c ∷ cs) before after = elim (cases_Bool (p c)) [
      | inl t ↦ and_from (good c) (list_all good cs) (cut c t) (rw t at after)
      | inr f ↦
          let more : before_first p (c ∷ cs) ≡ c ∷ before_first p cs = rw f (ap (λ k. take k (c ∷ cs)) (one_more (position_or_len p cs))) in
          let same : after_first p (c ∷ cs) ≡ after_first p cs = rw f (ap (λ k. drop k (c ∷ cs)) (later (position_or_len p cs))) in
          let parts = and_parts (good c) (list_all good (before_first p cs)) (sym (ap (list_all good) more) ∙ before) in
          and_from (good c) (list_all good cs) parts.0 (all_sides cs parts.1 (sym (ap (list_all good) same) ∙ after))
    ]
      where
        later : (n : ℕ) → 1 + n + 1 ≡ suc (n + 1)
        later n = omega arith

    -- the pieces between the bytes that pass p
    pub all_pieces : (text : List ℕ) → AllByRecursion (λ piece. list_all good piece ≡ true) (slice_split p text) → list_all good text ≡ true
    all_pieces [] all = refl
    all_pieces (c ∷ cs) all = elim (cases_Bool (p c)) [
      | inl t ↦ let parts = rw t at all in and_from (good c) (list_all good cs) (cut c t) (all_pieces cs parts.1)
      | inr f ↦ let parts = first_piece (slice_split p cs) (rw f at all) in and_from (good c) (list_all good cs) parts.0 (all_pieces cs parts.1)
    ]
      where
        first_piece : (pieces : List (List ℕ)) → AllByRecursion (λ piece. list_all good piece ≡ true) (onto_first c pieces)
            → (good c ≡ true) × AllByRecursion (λ piece. list_all good piece ≡ true) pieces
        first_piece [] h = ((and_parts (good c) true h.0).0, tt)
        first_piece (piece ∷ pieces) h = let parts = and_parts (good c) (list_all good piece) h.0 in (parts.0, (parts.1, h.1))
