-- The name of a provider as it is written.
use Rattle.std.specs.Prelude.{ℕ, zero, suc, ◌==◌, Bool, ◌||◌, nat_lt, if◌then◌else◌, List, [], ◌++◌, map, length, take, drop, replicate}
use Rattle.std.specs.Str.Lossy.{utf8_valid_len, utf8_invalid_len, after_first_chunk}

-- a byte that moves a terminal's cursor, as the end of a line does
abbrev pub is_control : ℕ → Bool
is_control byte = nat_lt byte 32 || (byte == 127)

-- what is written of a byte of a text
abbrev pub shown_byte : ℕ → ℕ
shown_byte byte = if is_control byte then 63 else byte

-- what is written of the first k runs of text, and of the bytes behind each that are no text
abbrev pub shown_within : ℕ → List ℕ → List ℕ
shown_within zero bytes = []
shown_within (suc k) bytes =
    let n = utf8_valid_len bytes in
    map shown_byte (take n bytes) ++ replicate (utf8_invalid_len (drop n bytes)) 63 ++ shown_within k (after_first_chunk bytes)

-- what is written of a name, which has no more runs than bytes: a `?` for each byte that moves a cursor, and for each that is of no UTF-8 text
unfoldable pub shown_name : List ℕ → List ℕ
shown_name name = shown_within (length name) name
