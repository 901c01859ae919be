-- Ids in written form, and lists of them.
use Rattle.std.proofs.lemmas.Grind.{common_steps}
use Rattle.std.proofs.Common.{◌≡◌, ℕ, zero, suc, ◌+◌, ◌<◌, ◌^◌, ◌/◌, ◌%◌, arith, Bool, true, false, List, [], ◌∷◌, ◌++◌, length, map, take, get_or, Some, refl, sym, ap, ◌∙◌, append_assoc, inl, if◌then◌else◌}
use Rattle.std.proofs.lemmas.Bool.Decides.{nat_tests}
use Rattle.std.proofs.lemmas.List.{map-append, take_more, length-take-le}
use Rattle.std.proofs.lemmas.List.Splits.{slice_split_none, slice_split_at}
use Rattle.std.proofs.lemmas.Str.{IsUtf8-from_ascii}
use Rattle.std.specs.Int.{w128, to_be_bytes, from_be_bytes}
use Rattle.std.specs.List.{All, AllByRecursion, join_with_byte}
use Rattle.std.specs.Option.{option_map}
use Rattle.std.specs.Str.{IsUtf8}
use Rattle.uuid.specs.Text.{lower, hyphen, hex_digit, nibble}
use Rattle.uuid.proofs.TextLemmas.{by_index_length, by_index_at, nibble_small, hyphenated_ascii}
use Rattle.uuid.proofs.RoundTrips.{parses_hyphenated}
use Rattle.uuid.proofs.OrderLemmas.{from_be_bytes-to_be_bytes_16}
use Rattle.ac_base.specs.Texts.{id_value, id_text}
use Rattle.ac_query.specs.Texts.{is_comma, items_of}
use Rattle.ac_query.specs.Pairs.Values.{values_of, ids_value}
use Rattle.ac_query.specs.Tokens.{part_text, ids_text}
use Rattle.ac_query.specs.Laws.{TokenReads}

-- a written id is text
pub id_is_text : (n : ℕ) → IsUtf8 (id_text n)
id_is_text n = IsUtf8-from_ascii _ (hyphenated_ascii lower (to_be_bytes w128 n) (inl refl))

-- ---- one more id behind others

-- one more text behind others
pub joined_more : (x : List ℕ) (xs : List (List ℕ)) (y : List ℕ) → join_with_byte 44 (x ∷ xs ++ y ∷ []) ≡ join_with_byte 44 (x ∷ xs) ++ 44 ∷ y
joined_more x [] y = refl
joined_more x (z ∷ xs) y = ap (λ l. x ++ 44 ∷ l) (joined_more z xs y) ∙ sym (append_assoc x (44 ∷ join_with_byte 44 (z ∷ xs)) (44 ∷ y))

behind_others : (ids : List ℕ) (id place : ℕ) → place ≡ length ids → ids_text (ids ++ id ∷ []) ≡ ids_text ids ++ part_text place id
behind_others [] id place is = rw is refl
behind_others (i ∷ ids) id place is = grind (arith, common_steps, nat_tests, map-append, joined_more)

pub next_part : (ids : List ℕ) (place id : ℕ) → place < length ids → id ≡ get_or ids place id → ids_text (take (place + 1) ids) ≡ ids_text (take place ids) ++ part_text place id
next_part ids place id within is = grind (arith, common_steps, take_more, behind_others, length-take-le)

-- ---- a written id has no comma, and is read as that id
no_comma_at : (xs : List ℕ) (k : ℕ) (b : Bool) → is_comma (if b then hyphen else hex_digit lower (nibble xs k)) ≡ false
no_comma_at xs k true = refl
no_comma_at xs k false = let small = nibble_small xs k in grind (arith, nat_tests)

no_comma : (n : ℕ) → All (λ c. is_comma c ≡ false) (id_text n)
no_comma n = grind (arith, common_steps, by_index_length, by_index_at, no_comma_at)

-- the bytes of a number are below 256
small : (ms : List ℕ) (k d : ℕ) → k < length (map (λ m. m % 256) ms) → get_or (map (λ m. m % 256) ms) k d < 256
small [] k d l = absurd (omega arith)
small (m ∷ ms) zero d l = omega arith
small (m ∷ ms) (suc k) d l = small ms k d (omega arith)

pub id_reads : (n : ℕ) → n < 2 ^ 128 → id_value (id_text n) ≡ Some n
id_reads n fits =
    ap (option_map (from_be_bytes w128)) (sym (parses_hyphenated lower (to_be_bytes w128 n) (inl refl) refl (small (n / 1329227995784915872903807060280344576 ∷ n / 5192296858534827628530496329220096 ∷ n / 20282409603651670423947251286016 ∷ n / 79228162514264337593543950336 ∷ n / 309485009821345068724781056 ∷ n / 1208925819614629174706176 ∷ n / 4722366482869645213696 ∷ n / 18446744073709551616 ∷ n / 72057594037927936 ∷ n / 281474976710656 ∷ n / 1099511627776 ∷ n / 4294967296 ∷ n / 16777216 ∷ n / 65536 ∷ n / 256 ∷ n ∷ []))))
    ∙ ap (λ m. Some m) (from_be_bytes-to_be_bytes_16 n fits)

-- ---- the text of a token
parts_are : (id : ℕ) (ids : List ℕ) → items_of (ids_text (id ∷ ids)) ≡ map id_text (id ∷ ids)
parts_are id [] = slice_split_none is_comma (id_text id) (no_comma id)
parts_are id (i ∷ ids) = simp (slice_split_at, no_comma, parts_are i ids)

reads : (ids : List ℕ) → AllByRecursion (λ i. i < 2 ^ 128) ids → values_of id_value (map id_text ids) ≡ Some ids
reads [] fit = refl
reads (i ∷ ids) fit = rw (id_reads i fit.0, reads ids fit.1) refl

pub token_reads : TokenReads
unfolding ids_value
token_reads id ids fit = ap (values_of id_value) (parts_are id ids) ∙ reads (id ∷ ids) fit
