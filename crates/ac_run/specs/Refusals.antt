-- The line and the status of each refusal, and the fault that it tells.
use Rattle.std.specs.Prelude.{◌≡◌, ◌⊎◌, ℕ, Option, List, ◌++◌, Result, Ok, Err}
use Rattle.std.specs.Global.{Vec}
use Rattle.ac_query.specs.Shown.Faults.{fault_shown}
use Rattle.ac_run.specs.Changing.{change_line, changes_large_line, changes_unread_line}
use Rattle.ac_run.specs.Details.{behind, names_remedy}
use Rattle.ac_run.specs.Flavors.{query_told, why_shown}
use Rattle.ac_run.specs.Tasks.{Paths}
use Rattle.ac_run.specs.Lines.{answer_line, names_line, unreadable_line, too_large_line, record_line, token_line, host_line, memory_line, output_line, tries_line}
use Rattle.ac_run.specs.declared.refusal.AskRefusal.{AskRefusal}
use Rattle.ac_run.specs.declared.refusal.AskRefusal.TheVariants as ask
use Rattle.ac_run.specs.declared.refusal.ChangesRefusal.{ChangesRefusal}
use Rattle.ac_run.specs.declared.refusal.ChangesRefusal.TheVariants as changes
use Rattle.ac_run.specs.declared.refusal.NamesRefusal.{NamesRefusal}
use Rattle.ac_run.specs.declared.refusal.NamesRefusal.TheVariants as names
use Rattle.ac_run.specs.declared.refusal.Refusal.{Refusal}
use Rattle.ac_run.specs.declared.refusal.Refusal.TheVariants as why
use Rattle.ac_run.specs.declared.refusal.Refused.{Refused}
use Rattle.ac_run.specs.declared.refusal.TablesRefusal.{TablesRefusal}
use Rattle.ac_run.specs.declared.refusal.TablesRefusal.TheVariants as tables

-- ---- of the tables

-- of what is changed in them
abbrev pub changes_line : ChangesRefusal → List ℕ
changes_line changes.Unreadable = changes_unread_line
changes_line changes.TooLarge = changes_large_line
changes_line (changes.At line why) = change_line line why

abbrev pub line_of_tables : TablesRefusal → List ℕ
line_of_tables (tables.Unreadable t) = unreadable_line t
line_of_tables (tables.TooLarge t) = too_large_line t
line_of_tables (tables.Record t row k) = record_line t row k
line_of_tables (tables.Changes f) = changes_line f
line_of_tables tables.NoMemory = memory_line

abbrev pub status_of_tables : TablesRefusal → ℕ
status_of_tables tables.NoMemory = 7
status_of_tables _ = 3

-- ---- of what is asked

abbrev pub line_of_asked : AskRefusal → List ℕ
line_of_asked (ask.Query fault) = query_told (fault_shown fault)
line_of_asked (ask.Token fault) = token_line fault
line_of_asked (ask.Host fault) = host_line fault
line_of_asked (ask.Flavors f) = (why_shown f).line
line_of_asked (ask.Answer f) = answer_line f
line_of_asked ask.NoMemory = memory_line

abbrev pub status_of_asked : AskRefusal → ℕ
status_of_asked (ask.Query fault) = 4
status_of_asked (ask.Token fault) = 5
status_of_asked (ask.Host fault) = 5
status_of_asked (ask.Flavors f) = 4
status_of_asked (ask.Answer f) = 5
status_of_asked ask.NoMemory = 7

-- ---- of names

abbrev pub status_of_names : NamesRefusal → ℕ
status_of_names (names.Pair n f) = 4
status_of_names (names.Flavor n f) = 4
status_of_names (names.Token f) = 5
status_of_names names.NoMemory = 7
status_of_names _ = 3

-- ---- of all

abbrev pub line_of : Refusal → List ℕ
line_of (why.Tables refusal) = line_of_tables refusal
line_of (why.Asked refusal) = line_of_asked refusal
line_of (why.Names refusal) = names_line refusal
line_of why.Output = output_line
line_of why.TooManyTries = tries_line
line_of why.NoMemory = memory_line

abbrev pub status_of : Refusal → ℕ
status_of (why.Tables refusal) = status_of_tables refusal
status_of (why.Asked refusal) = status_of_asked refusal
status_of (why.Names refusal) = status_of_names refusal
status_of why.Output = 6
status_of why.TooManyTries = 8
status_of why.NoMemory = 7

-- the line of a refusal, with what stands behind it
abbrev pub line_told : Refused → List ℕ
line_told told = line_of told.refusal ++ told.detail.items

abbrev pub status_told : Refused → ℕ
status_told told = status_of told.refusal

-- a refusal has this text behind its line; or, where there was no memory for the text, it is want of memory, with nothing behind it
abbrev pub IsRefusalWith : {F : Type 0} → Refusal → Result (Vec ℕ) F → Refused → Type 0
IsRefusalWith refusal (Ok text) told = (line_told told ≡ line_of refusal ++ text.items) × (status_told told ≡ status_of refusal)
IsRefusalWith refusal (Err e) told = (line_told told ≡ memory_line) × (status_told told ≡ 7)

-- names are refused so, with what is to be done behind that line where more is told; or memory gave out
abbrev pub IsNamesRefused : Option Paths → NamesRefusal → Refused → Type 0
IsNamesRefused detail refusal told =
    ((line_told told ≡ names_line refusal ++ behind detail (λ _. names_remedy refusal)) × (status_told told ≡ status_of_names refusal))
    ⊎ ((line_told told ≡ memory_line) × (status_told told ≡ 7))
