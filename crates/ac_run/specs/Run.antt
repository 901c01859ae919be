-- What is known after each part of a run.
use Rattle.std.specs.Prelude.{◌≡◌, ◌⊎◌, ◌≤◌, ℕ, List, [], ◌++◌, Option, Some, None, Result, Err, IfOk, OnErr, ⊤}
use Rattle.std.specs.Io.KnownBytes.{Appends}
use Rattle.ac_base.specs.Devices.{Rises, TakesPart}
use Rattle.ac_report.specs.declared.fault.PageFault.{PageFault}
use Rattle.ac_report.specs.declared.fault.PageFault.TheVariants as page_fault
use Rattle.ac_tables.specs.declared.fault.Table.{Table}
use Rattle.ac_tables.specs.declared.fault.TableFault.{TableFault}
use Rattle.ac_tables.specs.declared.fault.TableFault.TheVariants as fault
use Rattle.ac_tables.specs.Tables.{tables_fault, world_stated}
use Rattle.ac_cloud.specs.World.{World}
use Rattle.ac_change.specs.declared.fault.ChangeKind.{ChangeKind}
use Rattle.ac_run.specs.Answer.{Outcome, refused}
use Rattle.ac_run.specs.Changing.{change_fault, world_in}
use Rattle.ac_run.specs.Details.{behind, unread_text}
use Rattle.ac_run.specs.Wanted.Given.{tables_in}
use Rattle.ac_run.specs.Tasks.{Paths}
use Rattle.ac_run.specs.Feeds.{Bytes, TellBytes, FeedRose, too_large}
use Rattle.ac_run.specs.Lines.{memory_line, output_line, tries_line, unreadable_line}
use Rattle.ac_base.specs.Writing.{TakesLine}
use Rattle.ac_tables.specs.declared.read.FiveTables.{FiveTables}
use Rattle.ac_run.specs.declared.refusal.ChangesRefusal.TheVariants as changes
use Rattle.ac_run.specs.declared.refusal.TablesRefusal.{TablesRefusal}
use Rattle.ac_run.specs.declared.refusal.TablesRefusal.TheVariants as tables

-- an outcome without a line was written whole, with its status
pub record IsWritten (outcome : Outcome) (old new : Option (List ℕ)) (given : ℕ) : Type 0 where
  pub line : outcome.line ≡ []
  pub status : given ≡ outcome.status
  pub output : Appends old new outcome.output

-- An outcome is written, by the answer of its writer: whole, with its status; after an error a first part of its output. A failed write raised the
-- count of failures; where the search stopped, it may.
pub record Delivers (outcome : Outcome) (may : Type 0) (result : Result ℕ PageFault) (old new : Option (List ℕ)) (before after : ℕ) : Type 0 where
  pub few : IfOk result (λ status. status ≤ 1)
  pub ok : IfOk result (IsWritten outcome old new)
  pub part : OnErr result (TakesPart old new outcome.output)
  pub failed : result ≡ Err page_fault.WriteFailed → Rises before after
  pub stopped : result ≡ Err page_fault.TooManyTries → may
  pub failures : before ≤ after

-- why there is no cloud: the first fault of the tables
abbrev pub ExplainsTables : Option TableFault → TablesRefusal → Type 0
ExplainsTables first (tables.Record t row k) = first ≡ Some (fault.At t row k)
ExplainsTables first tables.NoMemory = ⊤
ExplainsTables first _ = ⊥

-- why changes leave no cloud: their first fault
abbrev pub ExplainsChanges : Option (ℕ × ChangeKind) → TablesRefusal → Type 0
ExplainsChanges first (tables.Changes (changes.At line why)) = first ≡ Some (line, why)
ExplainsChanges first tables.NoMemory = ⊤
ExplainsChanges first _ = ⊥

-- the line of a table that can't be read, with what stands behind it where more is told
abbrev pub unread_line : Option Paths → Table → List ℕ
unread_line detail t = unreadable_line t ++ behind detail (λ paths. unread_text paths t)

-- the tables of these bytes are few enough and have no fault, nor have the changes, and they leave this world
pub record IsStated (changes : Option (List ℕ)) (b : Bytes) (world : World) : Type 0 where
  pub few : too_large b ≡ None
  pub fine : tables_fault (tables_in b) ≡ None
  pub made : change_fault changes (world_stated (tables_in b)) ≡ None
  pub states : world ≡ world_in changes b

-- Why nothing was answered, by the line that tells it and its status, where this is said of bytes: a feed failed, what is said is this very refusal, or memory
-- gave out.
abbrev pub Explains : {R : Type 0} → (R → Option (List ℕ)) → (R → ℕ) → Option Paths → (Bytes → Outcome) → FiveTables R → FiveTables R → List ℕ → ℕ → Type 0
Explains remaining failures detail said from to line status =
    ((t : Table) × FeedRose failures from to t × (line ≡ unread_line detail t) × (status ≡ 3))
    ⊎ (((3 ≤ status) × (status ≤ 5) × ((b : Bytes) → TellBytes remaining from b → said b ≡ refused line status))
    ⊎ ((line ≡ memory_line) × (status ≡ 7)))

-- Why an answer broke off, by the line that tells it and its status: the output failed, memory gave out, or the search stopped, which it may.
abbrev pub BreaksOff : Type 0 → List ℕ → ℕ → ℕ → ℕ → Type 0
BreaksOff may line status before after =
    ((line ≡ output_line) × (status ≡ 6) × Rises before after)
    ⊎ (((line ≡ memory_line) × (status ≡ 7)) ⊎ ((line ≡ tries_line) × (status ≡ 8) × may))

-- Why nothing was answered of a world, where this is said: what is said is this very refusal, or memory gave out.
abbrev pub IsRefusedSo : Outcome → List ℕ → ℕ → Type 0
IsRefusedSo said line status =
    ((3 ≤ status) × (status ≤ 5) × (said ≡ refused line status)) ⊎ ((line ≡ memory_line) × (status ≡ 7))

-- Why no answer was given of a world, where this is said: nothing was answered, and nothing written; or the answer broke off.
abbrev pub EndsIn : Outcome → Type 0 → List ℕ → ℕ → Type 0 → Option (List ℕ) → Option (List ℕ) → ℕ → ℕ → Type 0
EndsIn said may line status Untouched old new before after =
    (Untouched × IsRefusedSo said line status) ⊎ (BreaksOff may line status before after × TakesPart old new said.output)

-- Why a run gave no answer, by the line that tells it and its status: nothing was answered, and nothing written; or the answer broke off, and what was written is
-- a first part of the output.
abbrev pub Ends : {R : Type 0} → (R → Option (List ℕ)) → (R → ℕ) → Option Paths → (Bytes → Outcome) → (Bytes → Type 0) → FiveTables R → FiveTables R → List ℕ → ℕ
    → Type 0 → Option (List ℕ) → Option (List ℕ) → ℕ → ℕ → Type 0
Ends remaining failures detail said may from to line status Untouched old new before after =
    (Untouched × Explains remaining failures detail said from to line status)
    ⊎ (BreaksOff ((b : Bytes) → TellBytes remaining from b → may b) line status before after
    × ((b : Bytes) → TellBytes remaining from b → TakesPart old new (said b).output))

-- The answer was given whole: its output, its line and its status.
pub record IsAnswered (outcome : Outcome) (out_old out_new err_old err_new : Option (List ℕ)) (given : ℕ) : Type 0 where
  pub output : Appends out_old out_new outcome.output
  pub line : Appends err_old err_new outcome.line
  pub status : given ≡ outcome.status

-- A refusal was told: its line as far as the error sink took it, and its status. There is no output.
pub record IsRefused (outcome : Outcome) (err_old err_new : Option (List ℕ)) (before after given : ℕ) : Type 0 where
  pub output : outcome.output ≡ []
  pub line : TakesLine err_old err_new before after outcome.line
  pub status : given ≡ outcome.status

-- The feed of a table failed, which the line says, with what stands behind it.
pub record IsUnread (rose : Type 0) (detail : Option Paths) (table : Table) (err_old err_new : Option (List ℕ)) (before after : ℕ) : Type 0 where
  pub rises : rose
  pub line : TakesLine err_old err_new before after (unread_line detail table)

-- the feed of a table failed, or, where none is named, the tables have a fault
abbrev pub FailsOr : (Table → Type 0) → Type 0 → Option Table → Type 0
FailsOr Failed Faulty (Some table) = Failed table
FailsOr Failed Faulty None = Faulty
