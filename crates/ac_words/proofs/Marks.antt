-- No query that is accepted has a mark before its first `=` and its first `&`, nor what ends one behind a mark.
pub mod Texts
pub mod Decoded
pub mod PlainNames
pub mod Shown
pub mod PlainIds
pub mod PlainValues
pub mod PlainPairs
pub mod FirstPairs
use Rattle.std.proofs.lemmas.Grind.{common_steps}
use Rattle.std.proofs.Common.{◌≡◌, ℕ, ◌+◌, ◌==◌, ◌||◌, Bool, true, false, nat_lt, List, [], ◌∷◌, ◌++◌, length, map, filter, take, drop, append_assoc, length-append, None, inl, inr, refl, sym, ap, ◌∙◌, arith, if◌then◌else◌}
use Rattle.std.specs.Prelude.{not}
use Rattle.std.specs.List.{list_all, list_any, position_or_len, slice_split, AllByRecursion}
use Rattle.std.specs.List as list
use Rattle.std.proofs.lemmas.Bool.{and_parts, cases_Bool, eqb-true}
use Rattle.std.proofs.lemmas.Bool.Decides.{nat_tests}
use Rattle.std.proofs.lemmas.List.{take_at, drop_at}
use Rattle.form_urlencoded.specs.Form.{ampersand, equals_sign, is_nonempty, onto_first, raw_pairs, split, split_pair}
use Rattle.ac_base.specs.Texts.{is_suffix_char}
use Rattle.ac_query.specs.declared.version.Version.{Version}
use Rattle.ac_query.specs.Faults.{query_fault}
use Rattle.ac_query.specs.Pairs.{pair_text, text_of}
use Rattle.ac_run.specs.Wanted.Mark.{has_path, is_at_end, is_end, is_joint, is_mark, past_mark}
use Rattle.ac_words.specs.Laws.{PathsAlone}
use Rattle.ac_words.proofs.Marks.Texts.{all_pieces, all_sides, all_weaker, none_of}
use Rattle.ac_words.proofs.Marks.Decoded.{Decodes, decoded_fine}
use Rattle.ac_words.proofs.Marks.Shown.{is_shown, suffix_char_shown}
use Rattle.ac_words.proofs.Marks.PlainPairs.{IsPlainPair, query_plain}
use Rattle.ac_words.proofs.Marks.FirstPairs.{MarkedFirst, first-marked, has_bytes, leads, path-leads}

-- ---- no mark

no_mark : Decodes is_suffix_char (λ c. not (is_mark c))
no_mark = record { kept = λ c h. grind (arith, nat_tests); digits = λ c h. grind (arith, nat_tests); sign = refl; plus = refl; lossless = refl }

marked : (pairs : List (List ℕ × List ℕ)) → MarkedFirst pairs → AllByRecursion IsPlainPair (map pair_text pairs) → ⊥
marked [] mark plain = absurd mark
marked (p ∷ ps) mark plain =
    let none = none_of is_mark p.0 (decoded_fine is_suffix_char (λ c. not (is_mark c)) no_mark p.0 plain.0.name) in
    cc

accepted : (version : Version) (text : List ℕ) → query_fault version text ≡ None → past_mark text ≡ text
unfolding past_mark
accepted version text none = elim (cases_Bool (has_path text)) [
  | inl path ↦ absurd (marked (raw_pairs text) (first-marked text path) (query_plain version text none))
  | inr own ↦ rw own refl
]

-- ---- no end

abbrev is_inner : ℕ → Bool
is_inner c = not (is_end c)

no_end : Decodes is_shown is_inner
no_end = record { kept = λ c h. (and_parts (is_inner c) (nat_lt c 128) h).0; digits = λ c h. grind (arith, nat_tests); sign = refl; plus = refl; lossless = refl }

piece_inner : (piece : List ℕ) → IsPlainPair (pair_text (split_pair piece)) → list_all is_inner piece ≡ true
piece_inner piece plain =
    let p = split_pair piece in
    all_sides is_inner (λ b. b == equals_sign) (λ c t. ap is_inner (eqb-true c equals_sign t)) piece
    (decoded_fine is_shown is_inner no_end p.0 (all_weaker is_suffix_char is_shown suffix_char_shown (text_of p.0) plain.name))
    (decoded_fine is_shown is_inner no_end p.1 plain.value)

pieces_inner : (pieces : List (List ℕ)) → AllByRecursion IsPlainPair (map pair_text (map split_pair (filter is_nonempty pieces))) → AllByRecursion (λ piece. list_all is_inner piece ≡ true) pieces
pieces_inner [] plain = tt
pieces_inner ([] ∷ pieces) plain = (refl, pieces_inner pieces plain)
pieces_inner ((c ∷ cs) ∷ pieces) plain = let parts = rw (has_bytes c cs) at plain in (piece_inner (c ∷ cs) parts.0, pieces_inner pieces parts.1)

same_pieces : (text : List ℕ) → split ampersand text ≡ slice_split (λ b. b == ampersand) text
unfolding split
same_pieces [] = refl
same_pieces (c ∷ cs) =
    let pieces = slice_split (λ b. b == ampersand) cs in
    rw (same_pieces cs) (ap (λ more. if c == ampersand then [] ∷ pieces else more) (same_onto pieces))
  where
    same_onto : (pieces : List (List ℕ)) → onto_first c pieces ≡ list.onto_first c pieces
    same_onto [] = refl
    same_onto (piece ∷ pieces) = refl

whole : (version : Version) (text : List ℕ) → query_fault version text ≡ None → list_any is_end text ≡ false
unfolding raw_pairs
whole version text none =
    let pieces = pieces_inner (split ampersand text) (query_plain version text none) in
    none_of is_end text (all_pieces is_inner (λ b. b == ampersand) (λ c t. ap is_inner (eqb-true c ampersand t)) text (rw (same_pieces text) at pieces))

-- ---- behind a path

-- where the first byte stands that passes, behind some that fail
first_at : (p : ℕ → Bool) (front rest : List ℕ) → list_any p front ≡ false → position_or_len p rest ≡ 0 → position_or_len p (front ++ rest) ≡ length front
first_at p [] rest none here = here
first_at p (c ∷ cs) rest none here = grind (arith, common_steps, first_at p cs rest)

no_either : (p q : ℕ → Bool) (text : List ℕ) → list_any (λ c. p c || q c) text ≡ false → (list_any p text ≡ false) × (list_any q text ≡ false)
no_either p q [] none = (refl, refl)
no_either p q (c ∷ cs) none = grind (arith, common_steps, no_either p q cs)

behind : (version : Version) (path text rest : List ℕ) → list_any (λ c. is_mark c || is_joint c) path ≡ false → query_fault version text ≡ None → is_at_end rest ≡ true
    → past_mark (path ++ 63 ∷ (text ++ rest)) ≡ text
unfolding past_mark
behind version path text rest apart none end =
    let more = text ++ rest in
    let parts = no_either is_mark is_joint path apart in
    let at : position_or_len is_mark (path ++ 63 ∷ more) ≡ length path = first_at is_mark path (63 ∷ more) parts.0 refl in
    let long : nat_lt (length path) (length (path ++ 63 ∷ more)) ≡ true = grind (arith, common_steps) in
    let before : take (length path) (path ++ 63 ∷ more) ≡ path = take_at path (63 ∷ more) (length path) refl in
    let after : drop (length path + 1) (path ++ 63 ∷ more) ≡ more =
    sym (ap (drop (length path + 1)) (append_assoc path (63 ∷ []) more)) ∙ drop_at (path ++ 63 ∷ []) more (length path + 1) (length-append path (63 ∷ [])) in
    let stop : position_or_len is_end more ≡ length text = first_at is_end text rest (whole version text none) (at_start rest end) in
    rw (at, long, before, parts.1, after, stop) (take_at text rest (length text) refl)
  where
    at_start : (rest : List ℕ) → is_at_end rest ≡ true → position_or_len is_end rest ≡ 0
    at_start [] end = refl
    at_start (c ∷ cs) end = rw end refl

-- ---- no mark at all

leads-marked : (text : List ℕ) → leads text ≡ true → list_any is_mark text ≡ true
leads-marked [] h = cc
leads-marked (c ∷ cs) h = grind (arith, common_steps, leads-marked cs)

unmarked : (text : List ℕ) → list_any is_mark text ≡ false → past_mark text ≡ text
unfolding past_mark
unmarked text none = elim (cases_Bool (has_path text)) [
  | inl path ↦
      let bad = sym none ∙ leads-marked text (path-leads text path) in
      cc
  | inr own ↦ rw own refl
]

pub paths_alone : PathsAlone
paths_alone = record { accepted = accepted; whole = whole; behind = behind; unmarked = unmarked }
