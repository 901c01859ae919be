-- The name of the first pair has the mark that stands before each `=` and `&`.
use Rattle.std.proofs.lemmas.Grind.{common_steps}
use Rattle.std.proofs.Common.{◌≡◌, ℕ, suc, ◌==◌, ◌&&◌, ◌||◌, not, Bool, true, false, nat_lt, List, [], ◌∷◌, length, map, filter, take, inl, inr, refl, ap, ◌∙◌, arith}
use Rattle.std.specs.List.{list_any, position_or_len}
use Rattle.std.proofs.lemmas.Bool.{and_parts, cases_Bool, eqb-true}
use Rattle.form_urlencoded.specs.Form.{ampersand, equals_sign, is_nonempty, onto_first, raw_pairs, split, split_pair}
use Rattle.ac_run.specs.Wanted.Mark.{has_path, is_joint, is_mark}
use Rattle.ac_words.proofs.Marks.Texts.{one_more}

-- whether a mark stands in a text, with neither `=` nor `&` before it
abbrev pub leads : List ℕ → Bool
leads [] = false
leads (c ∷ cs) = is_mark c || (not (is_joint c) && leads cs)

pub path-leads : (text : List ℕ) → has_path text ≡ true → leads text ≡ true
path-leads [] h = cc
path-leads (c ∷ cs) h = elim (cases_Bool (is_mark c)) [
  | inl t ↦ rw t refl
  | inr f ↦
      let next : position_or_len is_mark (c ∷ cs) ≡ suc (position_or_len is_mark cs) = rw f (one_more _) in
      let later : (nat_lt (suc (position_or_len is_mark cs)) (length (c ∷ cs)) && not (list_any is_joint (take (suc (position_or_len is_mark cs)) (c ∷ cs)))) ≡ true =
      rw next at h in
      grind (arith, common_steps, path-leads cs)
]

-- the name of a piece
abbrev name_of : List ℕ → List ℕ
name_of piece = (split_pair piece).0

-- ---- pieces

-- the pieces of a text whose first one has the mark
abbrev IsLed : List (List ℕ) → Type 0
IsLed [] = ⊥
IsLed (piece ∷ pieces) = leads piece ≡ true

led-onto : (c : ℕ) (pieces : List (List ℕ)) → is_mark c ≡ true → IsLed (onto_first c pieces)
led-onto c [] m = rw m refl
led-onto c (piece ∷ pieces) m = rw m refl

led-more : (c : ℕ) (pieces : List (List ℕ)) → is_joint c ≡ false → IsLed pieces → IsLed (onto_first c pieces)
led-more c [] n led = absurd led
led-more c (piece ∷ pieces) n led = grind (arith, common_steps)

mark_is : (c : ℕ) → is_mark c ≡ true → c ≡ 63
mark_is c m = eqb-true c 63 m

pieces-led : (text : List ℕ) → leads text ≡ true → IsLed (split ampersand text)
unfolding split
pieces-led [] h = cc
pieces-led (c ∷ cs) h = elim (cases_Bool (is_mark c)) [
  | inl m ↦
      let other : (c == ampersand) ≡ false = rw (mark_is c m) refl in
      rw other (led-onto c (split ampersand cs) m)
  | inr f ↦
      let both : (not (is_joint c) && leads cs) ≡ true = rw f at h in
      let parts = and_parts (not (is_joint c)) (leads cs) both in
      let apart : is_joint c ≡ false = grind (arith, common_steps) in
      let other : (c == ampersand) ≡ false = grind (arith, common_steps) in
      rw other (led-more c (split ampersand cs) apart (pieces-led cs parts.1))
]

-- ---- names

name-marked : (piece : List ℕ) → leads piece ≡ true → list_any is_mark (name_of piece) ≡ true
name-marked [] h = cc
name-marked (c ∷ cs) h = elim (cases_Bool (is_mark c)) [
  | inl m ↦
      let other : (c == equals_sign) ≡ false = rw (mark_is c m) refl in
      ap (list_any is_mark) (longer other) ∙ rw m refl
  | inr f ↦
      let both : (not (is_joint c) && leads cs) ≡ true = rw f at h in
      let parts = and_parts (not (is_joint c)) (leads cs) both in
      let other : (c == equals_sign) ≡ false = grind (arith, common_steps) in
      ap (list_any is_mark) (longer other) ∙ rw f (name-marked cs parts.1)
]
  where
    longer : (c == equals_sign) ≡ false → name_of (c ∷ cs) ≡ c ∷ name_of cs
    longer other = rw other (ap (λ k. take k (c ∷ cs)) (one_more (position_or_len (λ b. b == equals_sign) cs)))

-- ---- pairs

pub has_bytes : (c : ℕ) (cs : List ℕ) → is_nonempty (c ∷ cs) ≡ true
has_bytes c cs = grind arith

-- the pairs of a text, of which the name of the first has the mark
abbrev pub MarkedFirst : List (List ℕ × List ℕ) → Type 0
MarkedFirst [] = ⊥
MarkedFirst (p ∷ ps) = list_any is_mark p.0 ≡ true

pub first-marked : (text : List ℕ) → has_path text ≡ true → MarkedFirst (raw_pairs text)
unfolding raw_pairs
first-marked text h = by_pieces (split ampersand text) (pieces-led text (path-leads text h))
  where
    by_pieces : (pieces : List (List ℕ)) → IsLed pieces → MarkedFirst (map split_pair (filter is_nonempty pieces))
    by_pieces [] led = absurd led
    by_pieces ([] ∷ pieces) led = cc
    by_pieces ((c ∷ cs) ∷ pieces) led = rw (has_bytes c cs) (name-marked (c ∷ cs) led)
