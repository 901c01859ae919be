-- A text of a UUID, in any of its forms, is shown.
use Rattle.std.proofs.lemmas.Grind.{common_steps}
use Rattle.std.proofs.Common.{◌≡◌, ℕ, ◌<◌, ◌==◌, ◌&&◌, true, false, List, [], ◌∷◌, length, drop, take, get_or, Some, None, inl, inr, sym, ap, ◌∙◌, take-append-drop, length-drop, arith}
use Rattle.std.specs.Prelude.{slice_index}
use Rattle.std.specs.Char.{to_ascii_lowercase}
use Rattle.std.specs.Int.{from_be_bytes, w128}
use Rattle.std.specs.List.{list_all}
use Rattle.std.specs.Str.{str_to_ascii_lowercase}
use Rattle.std.specs.Cmp.Lexicographic.{same_text}
use Rattle.std.proofs.lemmas.Bool.{and_from, and_parts, cases_Bool, eqb-true}
use Rattle.std.proofs.lemmas.Bool.Decides.{nat_tests}
use Rattle.std.proofs.lemmas.List.Sums.{AllPass-from_list_all, list_all-from_AllPass}
use Rattle.std.proofs.lemmas.List.{get_or_default, nil_from_length}
use Rattle.std.proofs.Math.Seq.{drop-cons}
use Rattle.std.proofs.lemmas.List.Folds.{list_all-map}
use Rattle.std.proofs.lemmas.Option.{IfSome_then}
use Rattle.uuid.specs.Text.{digit_place, digits_of, has_hyphens, close_brace, has_urn_prefix, hyphen_place, is_hex_digit, is_hyphen_place, open_brace, parsed, parsed_braced, parsed_hyphenated, parsed_simple, parsed_urn, urn_prefix}
use Rattle.uuid.proofs.TextLemmas.{by_index_at, by_index_length}
use Rattle.ac_base.specs.Texts.{id_value}
use Rattle.ac_query.proofs.Values.Choosing.{either_some}
use Rattle.ac_words.proofs.Marks.Texts.{all_joined, all_weaker}
use Rattle.ac_words.proofs.Marks.Shown.{is_shown, IsShown, ShowsSome, made_of, mapped, tested}

hex_shown : (c : ℕ) → is_hex_digit c ≡ true → is_shown c ≡ true
hex_shown c h = grind (arith, nat_tests)

lower_shown : (c : ℕ) → is_shown (to_ascii_lowercase c) ≡ true → is_shown c ≡ true
lower_shown c h = grind (arith, nat_tests)

simple_shown : (s : List ℕ) → ShowsSome s (parsed_simple s)
simple_shown s = made_of is_hex_digit hex_shown s _ _

at_hyphen : (s : List ℕ) (k : ℕ) → has_hyphens s ≡ true → is_hyphen_place k ≡ true → is_shown (slice_index s k) ≡ true
at_hyphen s k hyphens here = grind (arith, nat_tests, common_steps)

at_digit : (s : List ℕ) (k : ℕ) → k < 36 → is_hyphen_place k ≡ false → list_all is_hex_digit (digits_of s) ≡ true → is_shown (slice_index s k) ≡ true
at_digit s k within here digits =
    let j = digit_place k in
    let low : j < 32 = grind (arith, nat_tests) in
    let back : hyphen_place j ≡ k = grind (arith, nat_tests) in
    let at = AllPass-from_list_all is_hex_digit (digits_of s) digits j 0 (rw (by_index_length 32 (λ i. slice_index s (hyphen_place i))) low) in
    let same = by_index_at 32 (λ i. slice_index s (hyphen_place i)) j 0 low in
    hex_shown (slice_index s k) (ap is_hex_digit (ap (slice_index s) (sym back) ∙ sym same) ∙ at)

places_shown : (s : List ℕ) → (length s == 36) ≡ true → has_hyphens s ≡ true → list_all is_hex_digit (digits_of s) ≡ true → IsShown s
places_shown s long hyphens digits = list_all-from_AllPass is_shown s (λ k d h. ap is_shown (get_or_default s k d 0 h) ∙ at k (omega (arith, eqb-true (length s) 36 long)))
  where
    at : (k : ℕ) → k < 36 → is_shown (slice_index s k) ≡ true
    at k within = elim (cases_Bool (is_hyphen_place k)) [
      | inl here ↦ at_hyphen s k hyphens here
      | inr other ↦ at_digit s k within other digits
    ]

hyphenated_shown : (s : List ℕ) → ShowsSome s (parsed_hyphenated s)
hyphenated_shown s =
    tested s ((length s == 36) && has_hyphens s) (parsed_simple (digits_of s)) None
    (λ t. let parts = and_parts (length s == 36) (has_hyphens s) t in
    tested s ((length (digits_of s) == 32) && list_all is_hex_digit (digits_of s)) (Some _) None (λ u. places_shown s parts.0 parts.1 (and_parts (length (digits_of s) == 32) (list_all is_hex_digit (digits_of s)) u).1) tt) tt

between_braces : (s : List ℕ) → length s ≡ 38 → slice_index s 0 ≡ 123 → slice_index s 37 ≡ 125 → IsShown (take 36 (drop 1 s)) → IsShown s
between_braces [] long first last inner = absurd (omega arith)
between_braces (c ∷ cs) long first last inner =
    let short : length cs ≡ 37 = omega arith in
    let at : drop 36 cs ≡ get_or cs 36 0 ∷ drop 37 cs = drop-cons cs 36 0 (omega arith) in
    let none : drop 37 cs ≡ [] = nil_from_length (drop 37 cs) (omega (arith, length-drop 37 cs)) in
    let end : drop 36 cs ≡ 125 ∷ [] = cc in
    and_from (is_shown c) (list_all is_shown cs) (ap is_shown first)
    (ap (list_all is_shown) (sym (take-append-drop 36 cs)) ∙ all_joined is_shown (take 36 cs) (drop 36 cs) inner (ap (list_all is_shown) end))

braced_shown : (s : List ℕ) → ShowsSome s (parsed_braced s)
braced_shown s =
    tested s ((length s == 38) && (slice_index s 0 == open_brace) && (slice_index s 37 == close_brace)) (parsed_hyphenated (take 36 (drop 1 s))) None
    (λ t. let fronts = and_parts ((length s == 38) && (slice_index s 0 == open_brace)) (slice_index s 37 == close_brace) t in
    let parts = and_parts (length s == 38) (slice_index s 0 == open_brace) fronts.0 in
    IfSome_then (parsed_hyphenated (take 36 (drop 1 s))) (hyphenated_shown (take 36 (drop 1 s)))
    (λ v h. between_braces s (eqb-true (length s) 38 parts.0) (eqb-true (slice_index s 0) open_brace parts.1) (eqb-true (slice_index s 37) close_brace fronts.1) h)) tt

urn_shown : (s : List ℕ) → ShowsSome s (parsed_urn s)
urn_shown s =
    tested s ((length s == 45) && has_urn_prefix s) (parsed_hyphenated (drop 9 s)) None
    (λ t. IfSome_then (parsed_hyphenated (drop 9 s)) (hyphenated_shown (drop 9 s)) (λ v h. ap (list_all is_shown) (sym (take-append-drop 9 s)) ∙ all_joined is_shown (take 9 s) (drop 9 s) (front (and_parts (length s == 45) (has_urn_prefix s) t).1) h)) tt
  where
    front : has_urn_prefix s ≡ true → IsShown (take 9 s)
    front is =
        all_weaker (λ c. is_shown (to_ascii_lowercase c)) is_shown lower_shown (take 9 s)
        (sym (list_all-map is_shown to_ascii_lowercase (take 9 s)) ∙ ap (list_all is_shown) (same_text (str_to_ascii_lowercase (take 9 s)) (str_to_ascii_lowercase urn_prefix) (sym is)))

pub id_shown : (s : List ℕ) → ShowsSome s (id_value s)
id_shown s = mapped (from_be_bytes w128) s (parsed s)
    (either_some _ (length s == 32) (parsed_simple s) _ (simple_shown s)
    (either_some _ (length s == 36) (parsed_hyphenated s) _ (hyphenated_shown s)
    (either_some _ (length s == 38) (parsed_braced s) _ (braced_shown s)
    (either_some _ (length s == 45) (parsed_urn s) None (urn_shown s) tt))))
