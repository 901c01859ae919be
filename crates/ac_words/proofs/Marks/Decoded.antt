-- What is decoded to a text of some bytes has, but for escapes and `+`, no others.
use Rattle.std.proofs.lemmas.Grind.{common_steps}
use Rattle.std.proofs.Common.{◌≡◌, ℕ, zero, suc, ◌+◌, ◌*◌, ◌==◌, ◌&&◌, Bool, true, false, List, [], ◌∷◌, ◌++◌, length, map, inl, inr, refl, sym, ap, ◌∙◌, take, arith}
use Rattle.std.specs.Char.{digit_value, is_digit}
use Rattle.std.specs.List.{list_all}
use Rattle.std.specs.Str.Lossy.{after_first_chunk, replacement_bytes, utf8_lossy, utf8_lossy_within, utf8_valid_len}
use Rattle.std.proofs.lemmas.Bool.{and_from, and_parts, cases_Bool, eqb-false, eqb-true}
use Rattle.std.proofs.lemmas.List.Folds.{list_all-append}
use Rattle.std.proofs.lemmas.Str.{utf8_lossy_step}
use Rattle.form_urlencoded.specs.Form.{decode, plus_sign, plus_to_space}
use Rattle.percent_encoding.specs.Percent.{is_escape, percent_decode, percent_sign}
use Rattle.ac_query.specs.Pairs.{text_of}

-- What is good is fine, and so is all that stands for another byte; what replaces a faulty character is not good.
pub record Decodes (good fine : ℕ → Bool) : Type 0 where
  pub kept : (c : ℕ) → good c ≡ true → fine c ≡ true
  pub digits : (c : ℕ) → is_digit c 16 ≡ true → fine c ≡ true
  pub sign : fine percent_sign ≡ true
  pub plus : fine plus_sign ≡ true
  pub lossless : list_all good replacement_bytes ≡ false

module _ (good fine : ℕ → Bool) (d : Decodes good fine) where
  escapes_fine : (text : List ℕ) → list_all good (percent_decode text) ≡ true → list_all fine text ≡ true
  unfolding percent_decode
  escapes_fine [] all = refl
  escapes_fine (b ∷ []) all = grind (arith, common_steps, d.kept)
  escapes_fine (b ∷ c ∷ []) all = grind (arith, common_steps, d.kept)
  escapes_fine (b ∷ high ∷ low ∷ rest) all = elim (cases_Bool (is_escape b high low)) [
    | inl e ↦
        let parts = and_parts (b == percent_sign && is_digit high 16) (is_digit low 16) e in
        let fronts = and_parts (b == percent_sign) (is_digit high 16) parts.0 in
        let here : fine b ≡ true = ap fine (eqb-true b percent_sign fronts.0) ∙ d.sign in
        let more = and_parts (good (16 * digit_value high + digit_value low)) (list_all good (percent_decode rest)) (rw e at all) in
        and_from (fine b) _ here (and_from (fine high) _ (d.digits high fronts.1) (and_from (fine low) _ (d.digits low parts.1) (escapes_fine rest more.1)))
    | inr f ↦
        let more = and_parts (good b) (list_all good (percent_decode (high ∷ low ∷ rest))) (rw f at all) in
        and_from (fine b) _ (d.kept b more.0) (escapes_fine (high ∷ low ∷ rest) more.1)
  ]

  spaces_fine : (text : List ℕ) → list_all fine (map plus_to_space text) ≡ true → list_all fine text ≡ true
  spaces_fine [] all = refl
  spaces_fine (c ∷ cs) all =
      let parts = and_parts (fine (plus_to_space c)) (list_all fine (map plus_to_space cs)) all in
      and_from (fine c) (list_all fine cs) (elim (cases_Bool (c == plus_sign)) [
        | inl e ↦ ap fine (eqb-true c plus_sign e) ∙ d.plus
        | inr f ↦ rw f at parts.0
      ]) (spaces_fine cs parts.1)

  -- a character that is replaced leaves one that is not good
  replaced : (front rest : List ℕ) → list_all good (front ++ (replacement_bytes ++ rest)) ≡ false
  replaced front rest = grind (arith, common_steps, list_all-append, d.lossless)

  within_whole : (k : ℕ) (bytes : List ℕ) → (utf8_valid_len bytes == length bytes) ≡ true → utf8_lossy_within k bytes ≡ bytes
  within_whole zero bytes whole = refl
  within_whole (suc k) bytes whole = rw whole refl

  text_good : (bytes : List ℕ) → list_all good (utf8_lossy bytes) ≡ true → list_all good bytes ≡ true
  unfolding utf8_lossy
  text_good bytes all = elim (cases_Bool (utf8_valid_len bytes == length bytes)) [
    | inl whole ↦ sym (ap (list_all good) (within_whole (length bytes) bytes whole)) ∙ all
    | inr cut ↦
        let faulty : ¬ (utf8_valid_len bytes ≡ length bytes) = eqb-false (utf8_valid_len bytes) (length bytes) cut in
        let bad = sym (ap (list_all good) (utf8_lossy_step bytes faulty) ∙ replaced (take (utf8_valid_len bytes) bytes) (utf8_lossy (after_first_chunk bytes))) ∙ all in
        cc
  ]

  pub decoded_fine : (bytes : List ℕ) → list_all good (text_of bytes) ≡ true → list_all fine bytes ≡ true
  decoded_fine bytes all = spaces_fine bytes (escapes_fine (map plus_to_space bytes) (text_good (decode bytes) all))
