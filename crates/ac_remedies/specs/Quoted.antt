-- Texts in pieces, and values in quotes.
use Rattle.std.specs.Prelude.{ℕ, ◌+◌, ◌-◌, ◌/◌, ◌%◌, Bool, ◌&&◌, ◌==◌, not, nat_le, nat_lt, if◌then◌else◌, List, [], ◌∷◌, codes, length, take}
use Rattle.std.specs.List.{flat_map}

-- pieces of a text, joined
abbrev pub said : List (List ℕ) → List ℕ
said pieces = flat_map (λ piece. piece) pieces

-- a byte that a terminal shows as it is, and that neither ends a text in quotes nor begins an escape
abbrev pub is_plain : ℕ → Bool
is_plain c = nat_le 32 c && nat_le c 126 && not (c == 34) && not (c == 92)

abbrev pub hex_digit : ℕ → ℕ
hex_digit n = if nat_lt n 10 then 48 + n else 97 + (n - 10)

-- a byte as it stands in quotes
unfoldable pub shown : ℕ → List ℕ
shown c = if is_plain c then c ∷ [] else 92 ∷ 120 ∷ hex_digit (c / 16) ∷ hex_digit (c % 16) ∷ []

-- what stands behind the quotes: that a value has more bytes than are shown
abbrev pub more_mark : List ℕ → List ℕ
more_mark value = if nat_lt 64 (length value) then codes ".." else []

-- the first 64 bytes of a value, in quotes
unfoldable pub quoted : List ℕ → List ℕ
quoted value = said (codes "\"" ∷ flat_map shown (take 64 value) ∷ codes "\"" ∷ more_mark value ∷ [])
