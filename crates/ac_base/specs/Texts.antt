-- The values of texts: numbers, ratios, identifiers and names.
use Rattle.std.specs.Prelude.{ℕ, ◌+◌, ◌-◌, ◌*◌, ◌/◌, ◌%◌, Bool, ◌&&◌, ◌||◌, ◌==◌, nat_le, nat_lt, List, ◌++◌, length, ◌^◌, Option, Some, None, if◌then◌else◌}
use Rattle.std.specs.List.{list_all, fold, before_first, after_first}
use Rattle.std.specs.Option.{option_map, option_and_then}
use Rattle.std.specs.Int.{w128, from_be_bytes, to_be_bytes}
use Rattle.std.specs.declared.cmp.Ordering.{Ordering}
use Rattle.std.specs.Ordering.{nat_cmp}
use Rattle.std.specs.Cmp.Lexicographic.{slice_cmp}
use Rattle.uuid.specs.Text.{parsed, hyphenated_text, lower}

-- an ASCII digit
abbrev pub is_digit : ℕ → Bool
is_digit c = nat_le 48 c && nat_le c 57

-- the digit 0
abbrev pub is_zero : ℕ → Bool
is_zero c = c == 48

-- a number and one more decimal digit behind it
abbrev pub with_digit : ℕ → ℕ → ℕ
with_digit n c = n * 10 + (c - 48)

-- the value of decimal digits
abbrev pub decimal : List ℕ → ℕ
decimal ds = fold with_digit 0 ds

-- from 1 to most digits
abbrev pub are_digits : ℕ → List ℕ → Bool
are_digits most ds = nat_lt 0 (length ds) && nat_le (length ds) most && list_all is_digit ds

-- their value, where they are digits
unfoldable pub number : ℕ → List ℕ → Option ℕ
number most ds = if are_digits most ds then Some (decimal ds) else None

-- the greatest number of a table or a query
abbrev pub greatest : ℕ
greatest = 2147483647

-- the number, where it is at most this
abbrev pub at_most : ℕ → ℕ → Option ℕ
at_most most n = if nat_le n most then Some n else None

-- the value of 1 to 10 decimal digits, at most the greatest number
unfoldable pub count_value : List ℕ → Option ℕ
count_value b = option_and_then (at_most greatest) (number 10 b)

-- the greatest ratio, 1000000, in millionths
abbrev pub greatest_ratio : ℕ
greatest_ratio = 1000000000000

-- the decimal point
abbrev pub is_point : ℕ → Bool
is_point c = c == 46

-- the digits before the point, which are all where a text has none, and those behind it
abbrev pub whole_part : List ℕ → List ℕ
whole_part b = before_first is_point b

abbrev pub fraction_part : List ℕ → List ℕ
fraction_part b = after_first is_point b

-- 1 to 7 digits, alone or with a point and one or more digits behind it
abbrev pub is_ratio_text : List ℕ → Bool
is_ratio_text b = are_digits 7 (whole_part b) && (length (whole_part b) == length b || are_digits (length (fraction_part b)) (fraction_part b))

-- Digits read as one number, of which so many stand behind the point: how many millionths that is, where it is a whole number of them.
unfoldable pub in_millionths : List ℕ → ℕ → Option ℕ
in_millionths digits behind = if decimal digits * 1000000 % 10 ^ behind == 0 then Some (decimal digits * 1000000 / 10 ^ behind) else None

-- the ratio that a text says, in millionths: all its digits, read as one number, and at most 1000000
unfoldable pub ratio_value : List ℕ → Option ℕ
ratio_value b =
    if is_ratio_text b then option_and_then (at_most greatest_ratio) (in_millionths (whole_part b ++ fraction_part b) (length (fraction_part b))) else None

-- the UUID that a text spells, as a number of 128 bits
abbrev pub id_value : List ℕ → Option ℕ
id_value b = option_map (from_be_bytes w128) (parsed b)

-- the hyphenated form in lower case
abbrev pub id_text : ℕ → List ℕ
id_text n = hyphenated_text lower (to_be_bytes w128 n)

-- A-Z 0-9 _
abbrev pub is_name_char : ℕ → Bool
is_name_char c = (nat_le 65 c && nat_le c 90) || is_digit c || (c == 95)

-- the name of a class or a trait: 1 to 255 characters
abbrev pub is_name : List ℕ → Bool
is_name b = nat_lt 0 (length b) && nat_le (length b) 255 && list_all is_name_char b

-- the name that a text is
abbrev pub name_value : List ℕ → Option (List ℕ)
name_value b = if is_name b then Some b else None

-- A-Z a-z 0-9 _ -
abbrev pub is_suffix_char : ℕ → Bool
is_suffix_char c = is_name_char c || (nat_le 97 c && nat_le c 122) || (c == 45)

-- the suffix of a group: 1 to 64 characters
abbrev pub is_suffix : List ℕ → Bool
is_suffix b = nat_lt 0 (length b) && nat_le (length b) 64 && list_all is_suffix_char b

-- the suffix that a text is
abbrev pub suffix_value : List ℕ → Option (List ℕ)
suffix_value b = if is_suffix b then Some b else None

-- the order of texts, byte by byte
abbrev pub text_cmp : List ℕ → List ℕ → Ordering
text_cmp = slice_cmp nat_cmp
