-- What is written of a name, run by run of its text.
use Rattle.std.proofs.Common.{◌≡◌, ◌∙◌, ◌+◌, ◌<◌, ◌≤◌, ◌++◌, ℕ, zero, suc, List, [], ◌∷◌, map, length, take, drop, replicate, refl, sym, ap, ap₂, arith, append_assoc}
use Rattle.std.proofs.Math.Seq.{drop-append_seam, drop-append-add, take-append_seam}
use Rattle.std.specs.Str.Lossy.{utf8_valid_len, utf8_invalid_len, utf8_error_len}
use Rattle.ac_report.specs.Names.{shown_byte, shown_within}

-- the first run of text, and the bytes behind it that are none
module _ (bytes valid invalid rest : List ℕ) (is : bytes ≡ valid ++ (invalid ++ rest)) (text : length valid ≡ utf8_valid_len bytes) (none : length invalid ≡ utf8_invalid_len (drop (utf8_valid_len bytes) bytes)) where
  run : (k : ℕ) → shown_within (suc k) bytes ≡ map shown_byte valid ++ replicate (length invalid) 63 ++ shown_within k rest
  run k =
      let n = utf8_valid_len bytes in
      let m = utf8_invalid_len (drop (utf8_valid_len bytes) bytes) in
      let front : take n bytes ≡ valid = ap₂ take (sym text) is ∙ take-append_seam valid (invalid ++ rest) in
      let behind : drop (n + m) bytes ≡ rest =
      ap₂ drop (ap₂ (λ (a b : ℕ). a + b) (sym text) (sym none)) is ∙ drop-append-add valid (invalid ++ rest) (length invalid) ∙ drop-append_seam invalid rest in
      ap₂ (λ (t r : List ℕ). map shown_byte t ++ replicate m 63 ++ shown_within k r) front behind
      ∙ ap (λ (c : ℕ). map shown_byte valid ++ replicate c 63 ++ shown_within k rest) (sym none)

  pub next_run : (made new whole : List ℕ) → length rest < length bytes → new ≡ made ++ map shown_byte valid ++ replicate (length invalid) 63
      → (k : ℕ) → length bytes ≤ k → made ++ shown_within k bytes ≡ whole → (j : ℕ) × (length rest ≤ j) × (new ++ shown_within j rest ≡ whole)
  next_run made new whole less added zero fits so_far = absurd (omega (arith, less, fits))
  next_run made new whole less added (suc k) fits so_far = (
    k,
    omega (arith, less, fits),
    ap (λ (l : List ℕ). l ++ shown_within k rest) (added ∙ append_assoc made (map shown_byte valid) (replicate (length invalid) 63))
        ∙ append_assoc made (map shown_byte valid ++ replicate (length invalid) 63) (shown_within k rest)
        ∙ ap (λ (l : List ℕ). made ++ l) (sym (run k)) ∙ so_far,
  )

-- nothing is written of no bytes
pub none_left : (k : ℕ) (bytes : List ℕ) → length bytes ≡ 0 → shown_within k bytes ≡ []
unfolding utf8_valid_len utf8_error_len
none_left zero bytes none = refl
none_left (suc k) [] none = none_left k [] refl
none_left (suc k) (byte ∷ bytes) none = absurd (omega (arith, none))
