-- The id that a text spells is a number of 128 bits.
use Rattle.ac_tables.proofs.Common.{◌≡◌, ◌<◌, ◌^◌, ◌==◌, ◌&&◌, ℕ, Bool, true, false, List, length, Option, Some, None, IfSome, if◌then◌else◌, arith, option_map, unwrap_or, nat_tests, id_value}
use Rattle.std.proofs.Common.{slice_index}
use Rattle.std.specs.List.{list_all}
use Rattle.std.specs.Int.{from_be_bytes, w128}
use Rattle.std.proofs.lemmas.Bool.{and_parts, eqb-true}
use Rattle.std.proofs.lemmas.List.Sums.{AllPass-from_list_all}
use Rattle.uuid.specs.Text.{is_hex_digit, value_of, byte_of_digits, parsed_simple, digits_of, has_hyphens, parsed_hyphenated, parsed}
use Rattle.uuid.proofs.TextLemmas.{by_index_at}

abbrev AreBytes : List ℕ → Type 0
AreBytes bs = (i : ℕ) → i < 16 → slice_index bs i < 256

-- sixteen bytes are a number of 128 bits
bytes_fit : (bs : List ℕ) → AreBytes bs → from_be_bytes w128 bs < 2 ^ 128
bytes_fit bs h = grind (arith)

-- ---- the bytes of a text
digit_small : (c : ℕ) → is_hex_digit c ≡ true → value_of c < 16
digit_small c h = grind (arith, nat_tests)

byte_small : (hex : List ℕ) → length hex ≡ 32 → list_all is_hex_digit hex ≡ true → (j : ℕ) → j < 16 → byte_of_digits hex j < 256
byte_small hex long all j h = grind (arith, AllPass-from_list_all, digit_small)

either_some : (b : Bool) (x y : Option (List ℕ)) → IfSome x AreBytes → IfSome y AreBytes → IfSome (if b then x else y) AreBytes
either_some true x y h k = h
either_some false x y h k = k

simple_bytes : (hex : List ℕ) → IfSome (parsed_simple hex) AreBytes
simple_bytes hex = grind (arith, and_parts, by_index_at, byte_small, eqb-true)

hyphenated_bytes : (s : List ℕ) → IfSome (parsed_hyphenated s) AreBytes
hyphenated_bytes s = either_some ((length s == 36) && has_hyphens s) (parsed_simple (digits_of s)) None (simple_bytes (digits_of s)) tt

bytes_of : (s : List ℕ) → IfSome (parsed s) AreBytes
bytes_of s = grind (arith, either_some, hyphenated_bytes, simple_bytes)

-- the id of a text, and 0 where it spells none
pub id_fits : (s : List ℕ) → unwrap_or (id_value s) 0 < 2 ^ 128
id_fits s = of (parsed s) (bytes_of s)
  where
    of : (o : Option (List ℕ)) → IfSome o AreBytes → unwrap_or (option_map (from_be_bytes w128) o) 0 < 2 ^ 128
    of None h = omega arith
    of (Some bs) h = bytes_fit bs h
