-- An answer as a session writes it: its lines, none of which begins with `=`, and the line that ends it.
use Rattle.std.specs.Prelude.{ℕ, ◌==◌, ◌||◌, Bool, true, false, List, [], ◌∷◌, ◌++◌, codes, if◌then◌else◌}
use Rattle.std.specs.Fmt.{decimal}
use Rattle.ac_session.specs.Lines.{first_line, is_newline, newline}

-- ---- its lines

-- `=`, or a blank: a line that begins so gets a blank before it, which a reader takes off again
abbrev pub is_marked : ℕ → Bool
is_marked byte = byte == 61 || byte == 32

-- a text as it is written at the beginning of a line, or within one
abbrev pub escaped : Bool → List ℕ → List ℕ
escaped begins [] = []
escaped true (byte ∷ text) = if is_marked byte then 32 ∷ byte ∷ escaped false text else byte ∷ escaped (is_newline byte) text
escaped false (byte ∷ text) = byte ∷ escaped (is_newline byte) text

-- whether a line begins behind a text
abbrev pub begins_line : Bool → List ℕ → Bool
begins_line begins [] = begins
begins_line begins (byte ∷ text) = begins_line (is_newline byte) text

-- the last line gets its newline
abbrev pub last_newline : Bool → List ℕ
last_newline true = []
last_newline false = newline ∷ []

abbrev pub lines_written : List ℕ → List ℕ
lines_written text = escaped true text ++ last_newline (begins_line true text)

-- ---- the line that ends it

-- what stands behind the status: nothing, or a blank and the first line of a fault
abbrev pub behind_status : List ℕ → List ℕ
behind_status [] = []
behind_status (byte ∷ line) = 32 ∷ first_line (byte ∷ line)

-- the status of an answer, and the line of its fault, where it has one
abbrev pub end_line : ℕ → List ℕ → List ℕ
end_line status line = codes "= " ++ (decimal status ++ (behind_status line ++ newline ∷ []))
