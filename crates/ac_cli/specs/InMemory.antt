-- What the program leaves over words and files in memory, whose bytes are known.
use Rattle.std.specs.Prelude.{◌≡◌, ◌≤◌, ⊤, ℕ, Bool, true, false, List, [], ◌∷◌, ◌++◌, codes, length, map, find, Option, Some, None}
use Rattle.std.specs.Option.{option_and_then, option_map, unwrap_or}
use Rattle.std.specs.Str.{bytes_eq}
use denote.Ref.{Bor}
use Rattle.clap.specs.Words.{Text}
use Rattle.ac_run.specs.Answer.{Outcome, answer}
use Rattle.ac_run.specs.Feeds.{Bytes, is_long, is_long_there}
use Rattle.ac_run.specs.Notes.{noted}
use Rattle.ac_query.specs.declared.version.Version.TheVariants.{V136}
use Rattle.ac_run.specs.Tasks.{Paths, Task, check}
use Rattle.ac_session.specs.Sessions.{session_answer}
use Rattle.ac_session.specs.Turns.Named.{terms_with}
use Rattle.ac_words.specs.Words.{Line, Says, faults, file_called, is_tabled, named, paths_in, task_in}
use Rattle.ac_words.specs.declared.form.Form.{Form}
use Rattle.ac_words.specs.declared.form.Form.TheVariants.{Csv}
use Rattle.ac_cli.specs.Files.{names_header}
use Rattle.ac_cli.specs.Forms.{formed}
use Rattle.ac_cli.specs.Program.{detail_in, header_bytes, note_behind}
use Rattle.ac_cli.specs.declared.memory.Left.{Left}
use Rattle.ac_cli.specs.declared.memory.MemFile.{MemFile}
use Rattle.ac_cli.specs.declared.memory.Written.{Written}

-- ---- words and files

-- files, each with its path
abbrev pub Files : Type 0
Files = List (Text × List ℕ)

-- the bytes of the file at a path, the first of those that have it
abbrev pub bytes_at : Files → Text → Option (List ℕ)
bytes_at files path = option_map (λ f. f.1) (find (λ f. bytes_eq f.0 path) files)

-- where a path is given, its file is there with these bytes; else there are none
abbrev pub HasFile : Files → Option Text → Option (List ℕ) → Type 0
HasFile files None None = ⊤
HasFile files (Some path) (Some bytes) = bytes_at files path ≡ Some bytes
HasFile files _ _ = ⊥

-- the same of the one file beside the tables, which counts as empty where none is asked for
abbrev pub HasOwn : Files → Option Text → List ℕ → Type 0
HasOwn files None bytes = bytes ≡ []
HasOwn files (Some path) bytes = bytes_at files path ≡ Some bytes

-- The file of each table is there, with these bytes.
pub record HasTables (files : Files) (paths : Paths) (b : Bytes) : Type 0 where
  pub providers : bytes_at files paths.providers ≡ Some b.providers
  pub inventories : bytes_at files paths.inventories ≡ Some b.inventories
  pub usages : HasFile files paths.usages b.usages
  pub traits : HasFile files paths.traits b.traits
  pub aggregates : HasFile files paths.aggregates b.aggregates

-- the table of names of aggregates, where names are asked for: that at a path, where it is there; else the header alone
abbrev pub names_at : Files → Bool → Option Text → Option (List ℕ)
names_at files false path = None
names_at files true path = Some (unwrap_or (option_and_then (bytes_at files) path) names_header)

-- All files of a line are there, and those beside the tables have not too many bytes.
pub record HasFiles (files : Files) (line : Line) (b : Bytes) (file : List ℕ) (changes : Option (List ℕ)) (names : Option (List ℕ)) : Type 0 where
  pub tables : HasTables files line.paths b
  pub own : HasOwn files (file_called line.call) file
  pub few : is_long file ≡ false
  pub changed : HasFile files line.changes changes
  pub few_changes : is_long_there changes ≡ false
  pub named : names_at files line.names line.aggregate_names ≡ names
  pub few_names : is_long_there names ≡ false

-- what a line needs is there; what is about no tables needs nothing, and is done over their headers
abbrev pub needs : Bool → Type 0 → Bytes → List ℕ → Option (List ℕ) → Option (List ℕ) → Type 0
needs true Needed b file changes names = Needed
needs false Needed b file changes names = (b ≡ header_bytes) × (file ≡ []) × (changes ≡ None) × (names ≡ None)

-- Words say a line over tables of these bytes: they have no fault, and what the line needs is there.
pub record SaysOver (words : List Text) (files : Files) (b : Bytes) : Type 0 where
  pub some : 2 ≤ length words
  pub fine : faults words ≡ []
  pub line : Line
  pub says : Says (named words) line
  pub file : List ℕ
  pub changes : Option (List ℕ)
  pub names : Option (List ℕ)
  pub there : needs (is_tabled line.call) (HasFiles files line b file changes names) b file changes names

-- They ask for this task, its rows in this form.
pub record AsksOver (words : List Text) (files : Files) (form : Form) (task : Task) (b : Bytes) : Type 0 where
  pub over : SaysOver words files b
  pub formed : over.line.form ≡ form
  pub asks : task_in over.line over.file over.changes over.names (detail_in over.line) ≡ Some task

-- They ask for a session, whose searches have no bound.
pub record HoldsOver (words : List Text) (files : Files) (b : Bytes) : Type 0 where
  pub over : SaysOver words files b
  pub asks : task_in over.line over.file over.changes over.names (detail_in over.line) ≡ None
  pub whole : over.line.tries ≡ None

-- words that ask for the sizes of the tables in a folder, and their task
abbrev pub asks_sizes : List Text
asks_sizes = codes "ac_cli" ∷ codes "check" ∷ codes "--tables" ∷ codes "cloud" ∷ []

abbrev pub sizes_task : Task
sizes_task = record { command = check; query = []; version = V136; tries = None; changes = None; names = None; detail = None }

-- There are words that ask: these, where the tables of the folder are there.
abbrev pub WordsAsk : Type 0
WordsAsk = (files : Files) (b : Bytes) → HasTables files (paths_in (codes "cloud")) b → AsksOver asks_sizes files Csv sizes_task b

-- ---- what is left

-- the answer to a task, its rows in a form, and behind its line what is told then
abbrev pub left_by : Form → Task → Bytes → Outcome
left_by form task b = record (formed form (answer task b)) { line = (answer task b).line ++ note_behind (answer task b).status (noted task b) }

-- the answers of a session to these lines
abbrev pub held_by : {words : List Text} {files : Files} {b : Bytes} → HoldsOver words files b → List ℕ → Outcome
held_by {words} {files} {b} holds questions = session_answer (detail_in holds.over.line) holds.over.changes (terms_with holds.over.line.version holds.over.names) b questions

-- it is left: its output, its text on the error stream, and its status
pub record IsLeft (outcome : Outcome) (left : Left) : Type 0 where
  pub output : left.output.items ≡ outcome.output
  pub errors : left.errors.items ≡ outcome.line
  pub status : left.status ≡ outcome.status

-- ---- as the structs of it show

abbrev pub words_shown : List (Bor (List ℕ)) → List Text
words_shown words = map (λ w. w.now) words

abbrev pub files_shown : List (Bor (List ℕ) × Bor (List ℕ)) → Files
files_shown files = map (λ f. (f.0.now, f.1.now)) files

abbrev pub file_bytes : MemFile → List ℕ
file_bytes f = f.bytes.now

abbrev pub written_bytes : Written → List ℕ
written_bytes w = w.bytes.items

abbrev pub written_failures : Written → ℕ
written_failures w = w.failures
