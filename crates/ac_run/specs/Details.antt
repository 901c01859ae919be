-- What stands behind the line of a refusal where more is told: what is to be done.
use Rattle.std.specs.Prelude.{ℕ, List, [], codes, Option, Some, None, Result, Ok, Err}
use Rattle.std.specs.Option.{unwrap_or}
use Rattle.ac_cloud.specs.Cloud.Hosts.{host_of}
use Rattle.ac_cloud.specs.World.{Provider}
use Rattle.ac_cloud.specs.declared.cloud.provider_name.HostFault.{HostFault}
use Rattle.ac_query.specs.Asked.{Asked}
use Rattle.ac_query.specs.Faults.{query_fault}
use Rattle.ac_query.specs.Laws.Gathered.{asked_by}
use Rattle.ac_query.specs.Pairs.{pairs_of}
use Rattle.ac_query.specs.Shown.Faults.{fault_shown}
use Rattle.ac_query.specs.declared.version.Version.{Version}
use Rattle.ac_remedies.specs.Queries.{host_remedy, query_remedy, token_remedy}
use Rattle.ac_remedies.specs.Tables.{record_remedy, size_remedy, unread_remedy}
use Rattle.ac_run.specs.Changing.{change_remedy}
use Rattle.ac_run.specs.Comparing.{answer_refused}
use Rattle.ac_run.specs.Wanted.Given.{token_refusal}
use Rattle.ac_run.specs.Flavors.{flavors_refused, why_shown}
use Rattle.ac_run.specs.Tasks.{Command, Paths, Task, capacity, compare, host_in, token_in}
use Rattle.ac_run.specs.declared.refusal.AnswerRefusal.{AnswerRefusal}
use Rattle.ac_run.specs.declared.refusal.AnswerRefusal.TheVariants as answer
use Rattle.ac_run.specs.declared.refusal.AskRefusal.{AskRefusal}
use Rattle.ac_run.specs.declared.refusal.AskRefusal.TheVariants as ask
use Rattle.ac_run.specs.declared.refusal.ChangesRefusal.TheVariants as changes
use Rattle.ac_run.specs.declared.refusal.NamesRefusal.{NamesRefusal}
use Rattle.ac_run.specs.declared.refusal.NamesRefusal.TheVariants as names
use Rattle.ac_report.specs.declared.called.NameFault.TheVariants as fault
use Rattle.ac_run.specs.declared.refusal.TablesRefusal.{TablesRefusal}
use Rattle.ac_run.specs.declared.refusal.TablesRefusal.TheVariants as tables
use Rattle.ac_tables.specs.FiveTables.{table_in}
use Rattle.ac_tables.specs.Tables.{Tables}
use Rattle.ac_tables.specs.declared.fault.Table.{Table}
use Rattle.ac_tables.specs.declared.fault.TableKind.{TableKind}

-- where more is told, what is said so; else nothing
abbrev pub behind : Option Paths → (Paths → List ℕ) → List ℕ
behind None said = []
behind (Some paths) said = said paths

-- the path of a table's file; empty where none was given
abbrev pub path_in : Paths → Table → List ℕ
path_in paths t = unwrap_or (table_in paths t) []

-- what is said of a fault, where there is one, and else this
abbrev pub text_of : {X : Type 0} → Option X → (X → List ℕ) → List ℕ → List ℕ
text_of None say otherwise = otherwise
text_of (Some x) say otherwise = say x

-- ---- of the tables

-- of a table that was opened and can't be read: no reason is known
abbrev pub unread_text : Paths → Table → List ℕ
unread_text paths t = unread_remedy (path_in paths t) None

-- of a table with too many bytes
abbrev pub size_text : Paths → Table → List ℕ
size_text paths t = size_remedy (path_in paths t)

-- of a fault of a record
abbrev pub fault_text : Paths → Tables → Table → ℕ → TableKind → List ℕ
fault_text paths stated t row kind = record_remedy (path_in paths t) stated t row kind

-- ---- of what is asked

abbrev pub host_said : List ℕ → Result ℕ HostFault → List ℕ
host_said host (Ok place) = []
host_said host (Err f) = host_remedy host f

-- of an answer of the service that is no answer of it
unfoldable pub answer_remedy : AnswerRefusal → List ℕ
answer_remedy answer.BadAnswer = codes "  It is to be the body that the service answers GET /allocation_candidates with: JSON, with allocation_requests of 1.34 or later.\n"
answer_remedy _ = []

abbrev pub answer_text : Command → List ℕ
answer_text (compare answer) = text_of (answer_refused answer) answer_remedy []
answer_text _ = []

-- of a host that names no provider, or of an answer
abbrev pub rest_text : List Provider → Command → List ℕ
rest_text all command = text_of (host_in command) (λ host. host_said host (host_of all host)) (answer_text command)

-- of a token that is refused; else of the host or the answer
abbrev pub token_text : List Provider → Command → Asked → List ℕ
token_text all command asked =
    text_of (token_refusal asked (token_in command)) (token_remedy (unwrap_or (token_in command) []) asked) (rest_text all command)

-- of a table of flavors that is refused
abbrev pub flavors_text : Version → List ℕ → List ℕ
flavors_text version flavors = text_of (flavors_refused version flavors) (λ why. why.detail) []

-- of a query that is refused; else of the token
abbrev pub asks_text : List Provider → Task → List ℕ
asks_text all task =
    text_of (query_fault task.version task.query) (λ f. query_remedy task.version task.query (Some f))
    (token_text all task.command (asked_by task.version (pairs_of task.query)))

-- of what a command asks
abbrev pub text_asked : Command → List Provider → Task → List ℕ
text_asked (capacity flavors _) all task = flavors_text task.version flavors
text_asked _ all task = asks_text all task

abbrev pub asked_text : List Provider → Task → List ℕ
asked_text all task = text_asked task.command all task

-- ---- of a refusal

-- of a table whose bytes can't be had
abbrev pub reading_remedy : TablesRefusal → Paths → List ℕ
reading_remedy (tables.Unreadable t) = λ paths. unread_text paths t
reading_remedy (tables.TooLarge t) = λ paths. size_text paths t
reading_remedy _ = λ paths. []

-- of a fault of a record of these tables
abbrev pub fault_remedy : Tables → TablesRefusal → Paths → List ℕ
fault_remedy stated (tables.Record t row kind) = λ paths. fault_text paths stated t row kind
fault_remedy stated _ = λ paths. []

-- of what is changed
abbrev pub changes_remedy : TablesRefusal → List ℕ
changes_remedy (tables.Changes (changes.At line why)) = change_remedy why
changes_remedy _ = []

-- of names that can't be read
unfoldable pub names_remedy : NamesRefusal → List ℕ
names_remedy (names.Record row kind) = codes "  Each record is the UUID of an aggregate and a name of it, behind the header uuid,name.\n"
names_remedy (names.Pair n fault.Unknown) = codes "  No provider has this name (in_tree), or no aggregate (member_of): their names stand in aggregate-names.csv.\n"
names_remedy (names.Flavor n fault.Unknown) = codes "  No provider has this name (in_tree), or no aggregate (member_of): their names stand in aggregate-names.csv.\n"
names_remedy (names.Flavor n fault.Ambiguous) = codes "  Several have this name; write the UUID of one.\n"
names_remedy (names.Token fault.Unknown) = codes "  No provider has this name.\n"
names_remedy (names.Pair n fault.Ambiguous) = codes "  Several have this name; write the UUID of one.\n"
names_remedy (names.Token fault.Ambiguous) = codes "  Several have this name; write the UUID of one.\n"
names_remedy _ = []

-- of what is asked and refused
abbrev pub asked_remedy : Task → AskRefusal → List ℕ
asked_remedy task (ask.Query f) = query_remedy task.version task.query (fault_shown f)
asked_remedy task (ask.Token f) = token_remedy (unwrap_or (token_in task.command) []) (asked_by task.version (pairs_of task.query)) f
asked_remedy task (ask.Host f) = host_remedy (unwrap_or (host_in task.command) []) f
asked_remedy task (ask.Flavors f) = (why_shown f).detail
asked_remedy task (ask.Answer f) = answer_remedy f
asked_remedy task ask.NoMemory = []
