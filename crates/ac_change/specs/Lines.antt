-- Lines of changes, and what each says.
use Rattle.std.specs.Prelude.{ℕ, Bool, true, false, ◌+◌, ◌==◌, ◌&&◌, ◌||◌, not, List, [], ◌∷◌, ◌++◌, codes, drop, length, take, Option, Some, None, if◌then◌else◌}
use Rattle.std.specs.List.{filter, slice_split}
use Rattle.std.specs.Option.{option_and_then, option_map, option_or}
use Rattle.std.specs.Str.{bytes_eq}
use Rattle.ac_base.specs.Texts.{count_value, id_value, name_value, ratio_value}
use Rattle.ac_change.specs.Changes.{Change, Edit, Scope, Setting, add, edit, everyone, gains, host, joins, leaves, loses, max_unit, members, min_unit, ratio, remove, reserved, root, sets, step_size, total}
use Rattle.ac_change.specs.declared.fault.ChangeKind.{ChangeKind}
use Rattle.ac_change.specs.declared.fault.ChangeKind.TheVariants as kind

abbrev pub Text : Type 0
Text = List ℕ

-- ---- Lines and their words

-- lines end at newlines
unfoldable pub lines_of : Text → List Text
lines_of text = slice_split (λ c. c == 10) text

-- a space, a tab, or a carriage return
abbrev pub is_blank : ℕ → Bool
is_blank c = (c == 32) || (c == 9) || (c == 13)

abbrev pub is_word : Text → Bool
is_word word = not (length word == 0)

-- what stands between blanks
unfoldable pub words_of : Text → List Text
words_of line = filter is_word (slice_split is_blank line)

-- it begins with #
abbrev pub is_comment : Text → Bool
is_comment [] = false
is_comment (c ∷ word) = c == 35

-- a line without words, or a comment, which is passed over
abbrev pub is_passed : List Text → Bool
is_passed [] = true
is_passed (word ∷ words) = is_comment word

-- ---- What words say

-- whom an edit touches: `*` is everyone, in:UUID the members of an aggregate, and every other word a provider
unfoldable pub scope_value : Text → Option Scope
scope_value word =
    if bytes_eq word (codes "*") then Some everyone
    else if bytes_eq (take 3 word) (codes "in:") then option_map (λ aggregate. members aggregate) (id_value (drop 3 word))
    else Some (host word)

-- what stands behind + or -, with true for +
abbrev pub sign_value : Text → Option (Bool × Text)
sign_value [] = None
sign_value (c ∷ word) = if c == 43 then Some (true, word) else if c == 45 then Some (false, word) else None

-- a number that isn't 0
abbrev pub positive : ℕ → Option ℕ
positive n = if n == 0 then None else Some n

-- a number of an inventory, by the name of its column
unfoldable pub setting_value : Text → Text → Option Setting
setting_value field value =
    if bytes_eq field (codes "total") then option_map (λ n. total n) (count_value value)
    else if bytes_eq field (codes "reserved") then option_map (λ n. reserved n) (count_value value)
    else if bytes_eq field (codes "min_unit") then option_map (λ n. min_unit n) (count_value value)
    else if bytes_eq field (codes "max_unit") then option_map (λ n. max_unit n) (count_value value)
    else if bytes_eq field (codes "step_size") then option_map (λ n. step_size n) (option_and_then positive (count_value value))
    else if bytes_eq field (codes "allocation_ratio") then option_map (λ n. ratio n) (ratio_value value)
    else None

-- a trait is gained or lost
abbrev pub trait_edit : Bool × Text → Option Edit
trait_edit mark = option_map (λ name. if mark.0 then gains name else loses name) (name_value mark.1)

-- an aggregate is joined or left
abbrev pub aggregate_edit : Bool × Text → Option Edit
aggregate_edit mark = option_map (λ id. if mark.0 then joins id else leaves id) (id_value mark.1)

-- a number of a class is set
abbrev pub set_edit : Text → Text → Text → Option Edit
set_edit class field value = option_and_then (λ name. option_map (λ to. sets name to) (setting_value field value)) (name_value class)

-- an edit of those whom a word tells
abbrev pub edit_of : Text → Option Edit → Option Change
edit_of word what = option_and_then (λ of. option_map (λ e. edit of e) what) (scope_value word)

-- the trait of a root that takes no new candidates
abbrev pub disabled : Text
disabled = codes "COMPUTE_STATUS_DISABLED"

-- what a command says of one word, of two, of three, and of four
unfoldable pub one_said : Text → Text → Option Change
one_said command word =
    if bytes_eq command (codes "disable") then Some (edit (root word) (gains disabled))
    else if bytes_eq command (codes "enable") then Some (edit (root word) (loses disabled))
    else if bytes_eq command (codes "remove") then Some (remove word)
    else None

unfoldable pub two_said : Text → Text → Text → Option Change
two_said command word mark =
    if bytes_eq command (codes "trait") then edit_of word (option_and_then trait_edit (sign_value mark))
    else if bytes_eq command (codes "aggregate") then edit_of word (option_and_then aggregate_edit (sign_value mark))
    else None

unfoldable pub three_said : Text → Text → Text → Text → Option Change
three_said command count word name =
    if bytes_eq command (codes "add") && bytes_eq word (codes "like") then option_map (λ n. add n name) (count_value count)
    else None

unfoldable pub four_said : Text → Text → Text → Text → Text → Option Change
four_said command word class field value =
    if bytes_eq command (codes "set") then edit_of word (set_edit class field value)
    else None

-- the change that words say
abbrev pub change_value : List Text → Option Change
change_value (command ∷ word ∷ []) = one_said command word
change_value (command ∷ word ∷ mark ∷ []) = two_said command word mark
change_value (command ∷ count ∷ word ∷ name ∷ []) = three_said command count word name
change_value (command ∷ word ∷ class ∷ field ∷ value ∷ []) = four_said command word class field value
change_value words = None

-- ---- What a text says

-- the change of a line, with its number
abbrev pub line_said : ℕ → Option Change → List (ℕ × Change)
line_said number None = []
line_said number (Some change) = (number, change) ∷ []

abbrev pub said_at : ℕ → List Text → List (ℕ × Change)
said_at number words = if is_passed words then [] else line_said number (change_value words)

-- the changes of lines, of which the first has this number
unfoldable pub said_from : ℕ → List Text → List (ℕ × Change)
said_from number [] = []
said_from number (line ∷ lines) = said_at number (words_of line) ++ said_from (number + 1) lines

-- the fault of a line that is not passed over
abbrev pub line_fault : ℕ → Option Change → Option (ℕ × ChangeKind)
line_fault number None = Some (number, kind.BadLine)
line_fault number (Some change) = None

abbrev pub fault_at : ℕ → List Text → Option (ℕ × ChangeKind)
fault_at number words = if is_passed words then None else line_fault number (change_value words)

-- the first line that says no change, and isn't passed over
unfoldable pub fault_from : ℕ → List Text → Option (ℕ × ChangeKind)
fault_from number [] = None
fault_from number (line ∷ lines) = option_or (fault_at number (words_of line)) (fault_from (number + 1) lines)

-- all changes of a text, each with its line, and the first fault
abbrev pub changes_said : Text → List (ℕ × Change)
changes_said text = said_from 1 (lines_of text)

abbrev pub changes_fault : Text → Option (ℕ × ChangeKind)
changes_fault text = fault_from 1 (lines_of text)
