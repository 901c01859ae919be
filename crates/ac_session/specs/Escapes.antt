-- What a sink that escapes lines has taken, and what of it stands in the sink below. What that had before is told apart: each of its bytes stands one
-- higher, and behind them a zero.
use Rattle.std.specs.Prelude.{⊤, ℕ, suc, ◌==◌, ◌&&◌, ◌≤◌, Bool, true, false, List, [], ◌∷◌, ◌++◌, map, drop, length, Option, Some, None, if◌then◌else◌}
use Rattle.std.specs.Io.KnownBytes.{append_known}
use Rattle.std.specs.Option.{option_map, unwrap_or}
use Rattle.ac_base.specs.declared.device.Push.{Push}
use Rattle.ac_base.specs.declared.device.Push.TheVariants as push
use Rattle.ac_session.specs.Frames.{begins_line, escaped, is_marked}
use Rattle.ac_session.specs.Lines.{is_newline}

-- the bytes that the sink below had before
abbrev pub marked_off : List ℕ → List ℕ
marked_off before = map suc before ++ 0 ∷ []

abbrev pub begun : Option (List ℕ) → Option (List ℕ)
begun before = option_map marked_off before

-- the text whose lines were escaped so, at the beginning of a line or within one
abbrev pub plain : Bool → List ℕ → List ℕ
plain begins [] = []
plain true (byte ∷ text) = if byte == 32 then plain false text else byte ∷ plain (is_newline byte) text
plain false (byte ∷ text) = byte ∷ plain (is_newline byte) text

-- a byte that is to follow
abbrev pub owed_bytes : Option ℕ → List ℕ
owed_bytes None = []
owed_bytes (Some byte) = byte ∷ []

-- the text that was taken, by what stands below behind the bytes of before
abbrev pub text_since : List ℕ → Option (List ℕ) → Option ℕ → List ℕ
text_since before now owed = plain true (drop (length before) (unwrap_or now [] ++ owed_bytes owed))

-- what was taken: what was before, and then the text
abbrev pub taken_since : Option (List ℕ) → Option (List ℕ) → Option ℕ → Option (List ℕ)
taken_since None now owed = None
taken_since (Some before) now owed = Some (marked_off before ++ text_since before now owed)

-- what stands below, with what is to follow: what was before, and then the text with its lines escaped
abbrev pub escaped_since : Option (List ℕ) → Option (List ℕ) → Option ℕ → Option (List ℕ)
escaped_since None now owed = append_known now (owed_bytes owed)
escaped_since (Some before) now owed = Some (before ++ escaped true (text_since before now owed))

-- whether a line begins behind that text
abbrev pub begins_since : Bool → Option (List ℕ) → Option (List ℕ) → Option ℕ → Bool
begins_since begins None now owed = begins
begins_since begins (Some before) now owed = begins_line true (text_since before now owed)

-- a text at the beginning of a line gets a blank before it
abbrev pub needs_blank : Bool → List ℕ → Bool
needs_blank true (byte ∷ text) = is_marked byte
needs_blank _ _ = false

-- how many of the first bytes of a text are written as they are within a line: those up to a line that gets a blank before it
abbrev pub plain_length : List ℕ → ℕ
plain_length [] = 0
plain_length (byte ∷ text) = suc (if is_newline byte && needs_blank true text then 0 else plain_length text)

-- of one byte at most
abbrev pub OneAtMost : Push → Type 0
OneAtMost (push.Took n) = n ≤ 1
OneAtMost push.Again = ⊤
OneAtMost push.Failed = ⊤
