-- The command line: what `clap` is told of it, and what it states of the words.
use Rattle.std.specs.Prelude.{◌||◌, ◌≡◌, ◌≢◌, ◌&&◌, ⊤, ℕ, List, [], ◌∷◌, ◌++◌, Bool, Option, Some, None, true, false, not, codes, is_some, option_map, string_bytes, if◌then◌else◌}
use Rattle.std.specs.declared.alloc.Global.{Global}
use Rattle.std.specs.declared.string.String.{String}
use Rattle.std.specs.List.{list_any}
use Rattle.std.specs.Option.{option_and_then, option_flatten}
use Rattle.std.specs.Str.{bytes_eq}
use Rattle.clap.specs.Kinds.{or_else}
use Rattle.clap.specs.Walk.{is_empty}
use Rattle.clap.specs.Words.{App, IsAmong, Kinds, Row, Rule, Text, fault_of, first_of, new_app, new_rule, subcommand_of, takes, with_rule, with_subcommand}
use Rattle.clap.specs.declared.builder.action.ArgAction.TheVariants.{SetTrue}
use Rattle.clap.specs.declared.error.kind.ErrorKind.{ErrorKind}
use Rattle.clap.specs.declared.error.kind.ErrorKind.TheVariants.{ArgumentConflict, DisplayHelp, DisplayVersion, InvalidValue, MissingRequiredArgument}
use Rattle.ac_base.specs.Texts.{count_value, id_value}
use Rattle.ac_query.specs.declared.version.Version.{Version}
use Rattle.ac_query.specs.declared.version.Version.TheVariants.{V136, V139}
use Rattle.ac_run.specs.Tasks.{Command, Paths, Task, check, candidates, tokens, list, fill, verify, explain, hosts, why, capacity, compare, audit, parameters, reading, command_shown}
use Rattle.ac_tables.specs.Tables.Names.{table_name}
use Rattle.ac_tables.specs.declared.fault.Table.{Table}
use Rattle.ac_tables.specs.declared.fault.Table.TheVariants.{Providers, Inventories, Usages, Traits, Aggregates}
use Rattle.ac_tables.specs.declared.read.FiveTables.{FiveTables}
use Rattle.ac_run.specs.Wanted.Mark.{past_mark}
use Rattle.ac_words.specs.Names.{name_read}
use Rattle.ac_words.specs.declared.form.Form.{Form}
use Rattle.ac_words.specs.declared.form.Form.TheVariants as form
use Rattle.ac_words.specs.declared.name.Name.{Name}
use Rattle.ac_words.specs.declared.name.Name.TheVariants as name
use Rattle.ac_words.specs.declared.words.Call as rust
use Rattle.ac_words.specs.declared.words.Call.TheVariants as variant
use Rattle.ac_words.specs.declared.words.WordFault.{WordFault}
use Rattle.ac_words.specs.declared.words.WordFault.TheVariants.{Refused, Help, NoMemory}
use Rattle.ac_words.specs.declared.words.WordFault.TheVariants as fault

-- ---- what `clap` is told

-- a word that has to be given
abbrev pub word_rule : Text → Rule
word_rule name = record (new_rule name) { required = true; value_names = 1 }

-- a word that may be left out
abbrev pub free_rule : Text → Rule
free_rule name = record (new_rule name) { value_names = 1 }

-- an option `--NAME VALUE`
abbrev pub option_rule : Text → Rule
option_rule name = record (new_rule name) { long = Some name; value_names = 1 }

-- an option `--NAME` without a value
abbrev pub flag_rule : Text → Rule
flag_rule name = record (new_rule name) { long = Some name; action = Some SetTrue }

-- the options of the tables: of their folder, and of each
abbrev pub with_tables : App → App
with_tables app =
    with_rule (with_rule (with_rule (with_rule (with_rule (with_rule app
    (option_rule (codes "tables"))) (option_rule (codes "providers"))) (option_rule (codes "inventories")))
    (option_rule (codes "usages"))) (option_rule (codes "traits"))) (option_rule (codes "aggregates"))

-- whether more is said
abbrev pub with_detail : App → App
with_detail app = with_rule app (flag_rule (codes "detail"))

-- the file of changes
abbrev pub with_change : App → App
with_change app = with_rule app (option_rule (codes "change"))

-- the options of a command over tables: those of the tables, what is changed of them, and whether more is said
abbrev pub with_common : App → App
with_common app = with_detail (with_change (with_tables app))

-- the version that reads queries
abbrev pub with_version : App → App
with_version app = with_rule app (option_rule (codes "microversion"))

-- the options of a command with queries: those of a command over tables, and the version
abbrev pub with_options : App → App
with_options app = with_version (with_common app)

-- the options of a command that searches: those of a command with queries, and how many tries a search may make
abbrev pub with_tries : App → App
with_tries app = with_rule (with_options app) (option_rule (codes "tries"))

-- the form of a command that writes rows
abbrev pub with_format : App → App
with_format app = with_rule app (record (option_rule (codes "format")) { short = Some 102 })

-- whether names stand in place of UUIDs
abbrev pub with_names : App → App
with_names app = with_rule app (flag_rule (codes "names"))

-- the options of a search for a query: those of a command that searches, and whether names stand in place of UUIDs
abbrev pub with_search : App → App
with_search app = with_names (with_tries app)

-- a command with a query
abbrev pub query_app : Text → App
query_app name = with_rule (new_app name) (word_rule (codes "query"))

abbrev pub check_app : App
check_app = with_common (new_app (codes "check"))

-- a command that writes candidates
abbrev pub search_app : Text → App
search_app name = with_rule (with_rule (with_search (query_app name)) (option_rule (codes "after"))) (option_rule (codes "at"))

-- a command that writes candidates with what is told of their providers
abbrev pub shown_app : Text → App
shown_app name = with_rule (search_app name) (flag_rule (codes "no-traits"))

abbrev pub candidates_app : App
candidates_app = shown_app (codes "candidates")

abbrev pub tokens_app : App
tokens_app = search_app (codes "tokens")

abbrev pub list_app : App
list_app = with_format (shown_app (codes "list"))

abbrev pub fill_app : App
fill_app = with_rule (with_search (query_app (codes "fill"))) (flag_rule (codes "sum"))

abbrev pub verify_app : App
verify_app = with_names (with_options (with_rule (query_app (codes "verify")) (word_rule (codes "token"))))

abbrev pub explain_app : App
explain_app = with_search (query_app (codes "explain"))

abbrev pub hosts_app : App
hosts_app = with_format (with_rule (with_rule (with_rule (with_search (query_app (codes "hosts"))) (option_rule (codes "in"))) (flag_rule (codes "fits"))) (flag_rule (codes "sum")))

abbrev pub why_app : App
why_app = with_format (with_search (with_rule (query_app (codes "why")) (word_rule (codes "host"))))

-- a command with a table of flavors
abbrev pub capacity_app : App
capacity_app = with_format (with_rule (with_search (with_rule (new_app (codes "capacity")) (word_rule (codes "flavors")))) (flag_rule (codes "prometheus")))

-- a query, with an answer of the service
abbrev pub compare_app : App
compare_app = with_search (with_rule (query_app (codes "compare")) (word_rule (codes "answer")))

abbrev pub audit_app : App
audit_app = with_format (with_rule (with_common (new_app (codes "audit"))) (option_rule (codes "zone")))

-- how a query is read, which no table has to do with; without one, the parameters
abbrev pub reading_app : App
reading_app = with_version (with_detail (with_rule (new_app (codes "query")) (free_rule (codes "query"))))

-- a session, which reads its queries later
abbrev pub session_app : App
session_app = with_search (new_app (codes "session"))

-- what is told of a command
abbrev pub app_for : Name → App
app_for name.Check = check_app
app_for name.Candidates = candidates_app
app_for name.Tokens = tokens_app
app_for name.List = list_app
app_for name.Fill = fill_app
app_for name.Verify = verify_app
app_for name.Explain = explain_app
app_for name.Hosts = hosts_app
app_for name.Why = why_app
app_for name.Capacity = capacity_app
app_for name.Compare = compare_app
app_for name.Audit = audit_app
app_for name.Query = reading_app
app_for name.Session = session_app

-- what has a version, and needs one of its own commands
abbrev pub as_program : App → App
as_program app = record app { top = record app.top { has_version = true; subcommand_required = true } }

abbrev pub program : App
program =
    with_subcommand (with_subcommand (with_subcommand (with_subcommand (with_subcommand (with_subcommand (with_subcommand (with_subcommand (with_subcommand (with_subcommand
    (with_subcommand (with_subcommand (with_subcommand (with_subcommand (as_program (new_app (codes "ac_cli"))) check_app.top) candidates_app.top) tokens_app.top) list_app.top)
    fill_app.top) verify_app.top) explain_app.top) hosts_app.top) why_app.top) capacity_app.top) compare_app.top) audit_app.top) reading_app.top) session_app.top

-- ---- what it states of the words

-- the command of a text, with its entries
abbrev pub command_read : Text × List Row → Option (Name × List Row)
command_read p = option_map (λ name. (name, p.1)) (name_read p.0)

-- the command that is found, with its entries
abbrev pub command_found : Option (Text × List Row) → Option (Name × List Row)
command_found found = option_and_then command_read found

-- the command that they name, and its entries
unfoldable pub named : List Text → Option (Name × List Row)
named words = command_found (subcommand_of program words)

-- an option without a value is given where its entry is this text
abbrev pub is_set : Option Text → Bool
is_set None = false
is_set (Some text) = bytes_eq text (codes "true")

-- ---- the faults that aren't `clap`'s

-- the version of a text; 1.36 where there is none
abbrev pub version_named : Option Text → Option Version
version_named None = Some V136
version_named (Some text) =
    if bytes_eq text (codes "1.36") || bytes_eq text (codes "1.37") || bytes_eq text (codes "1.38") then Some V136
    else if bytes_eq text (codes "1.39") then Some V139 else None

-- the version that reads the query
abbrev pub version_of : List Row → Option Version
version_of rows = version_named (first_of (codes "microversion") rows)

-- another version is a value that isn't valid
abbrev pub version_kinds : Option Version → Kinds
version_kinds None = InvalidValue ∷ []
version_kinds (Some version) = []

-- how many tries a text says; without it, no number is set
abbrev pub tries_named : Option Text → Option (Option ℕ)
tries_named None = Some None
tries_named (Some text) = option_map Some (count_value text)

-- how many tries a search may make
abbrev pub tries_of : List Row → Option (Option ℕ)
tries_of rows = tries_named (first_of (codes "tries") rows)

-- what is no count is a value that isn't valid
abbrev pub tries_kinds : Option (Option ℕ) → Kinds
tries_kinds None = InvalidValue ∷ []
tries_kinds (Some tries) = []

-- the aggregate that a text names; without it, none is named
abbrev pub aggregate_named : Option Text → Option (Option ℕ)
aggregate_named None = Some None
aggregate_named (Some text) = option_map Some (id_value text)

-- the aggregate of an option: that whose roots are told, and the zone of hosts
abbrev pub aggregate_of : Text → List Row → Option (Option ℕ)
aggregate_of option rows = aggregate_named (first_of option rows)

-- the aggregate whose roots are told, if one is named
abbrev pub within_in : List Row → Option ℕ
within_in rows = option_flatten (aggregate_of (codes "in") rows)

-- what is no UUID is a value that isn't valid
abbrev pub aggregate_kinds : Option (Option ℕ) → Kinds
aggregate_kinds None = InvalidValue ∷ []
aggregate_kinds (Some aggregate) = []

-- the fault of the aggregates
abbrev pub aggregates_kinds : List Row → Kinds
aggregates_kinds rows = or_else (aggregate_kinds (aggregate_of (codes "in") rows)) (aggregate_kinds (aggregate_of (codes "zone") rows))

-- the fault of the tries, and of the aggregates
abbrev pub option_kinds : List Row → Kinds
option_kinds rows = or_else (tries_kinds (tries_of rows)) (aggregates_kinds rows)

-- the form that a text names; without it, comma-separated values
abbrev pub form_named : Option Text → Option Form
form_named None = Some form.Csv
form_named (Some text) =
    if bytes_eq text (codes "csv") then Some form.Csv
    else if bytes_eq text (codes "table") then Some form.Table
    else if bytes_eq text (codes "json") then Some form.Json else None

-- the form in which rows are written
abbrev pub form_of : List Row → Option Form
form_of rows = form_named (first_of (codes "format") rows)

-- what names no form is a value that isn't valid
abbrev pub named_kinds : Option Form → Kinds
named_kinds None = InvalidValue ∷ []
named_kinds (Some form) = []

-- metrics are no rows: a form stands with none
abbrev pub metrics_kinds : List Row → Kinds
metrics_kinds rows = if is_some (first_of (codes "format") rows) && is_set (first_of (codes "prometheus") rows) then ArgumentConflict ∷ [] else []

-- the fault of the form
abbrev pub form_kinds : List Row → Kinds
form_kinds rows = or_else (named_kinds (form_of rows)) (metrics_kinds rows)

-- what the option of a table says
abbrev pub option_of : List Row → Table → Option Text
option_of rows table = first_of (table_name table) rows

-- the option of a table is given
abbrev pub has_option : List Row → Table → Bool
has_option rows table = is_some (option_of rows table)

abbrev pub all_tables : List Table
all_tables = Providers ∷ Inventories ∷ Usages ∷ Traits ∷ Aggregates ∷ []

-- the folder of the five tables
abbrev pub folder_of : List Row → Option Text
folder_of rows = first_of (codes "tables") rows

-- a folder stands with none of the tables' options; without one, those of providers and inventories are needed
abbrev pub table_kinds : List Row → Kinds
table_kinds rows =
    if is_some (folder_of rows) then (if list_any (has_option rows) all_tables then ArgumentConflict ∷ [] else [])
    else (if has_option rows Providers && has_option rows Inventories then [] else MissingRequiredArgument ∷ [])

-- a command is about tables, unless it tells how a query is read
abbrev pub has_tables : Name → Bool
has_tables name.Query = false
has_tables _ = true

-- the fault of the tables, where a command is about some
abbrev pub needed_kinds : Name → List Row → Kinds
needed_kinds name rows = if has_tables name then table_kinds rows else []

-- the fault of the version, the tries, the aggregates, the form and the tables that are named with a command
abbrev pub own_faults : Option (Name × List Row) → Kinds
own_faults None = []
own_faults (Some p) = or_else (version_kinds (version_of p.1)) (or_else (option_kinds p.1) (or_else (form_kinds p.1) (needed_kinds p.0 p.1)))

-- `clap` refuses them for want of memory alone, and their version, tries, aggregates, form and tables have no fault
unfoldable pub is_taken : List Text → Bool
is_taken words = takes program words && is_empty (own_faults (named words))

-- the kinds of fault that they may be refused for: none where they are taken
unfoldable pub faults : List Text → Kinds
faults words = or_else (fault_of program words) (own_faults (named words))

-- ---- what is made of it

-- what the words of a command line call for: a command with its query, which is empty where it asks for none; the table of flavors at a path, as rows or as
-- metrics; the answer of the service at a path, with its query; or a session, whose questions are read later
pub data Call : Type 0 where
  job : Command → Text → Call
  plan : Text → Bool → Call
  beside : Text → Text → Call
  session : Call

-- what the words of a command line say
pub record Line : Type 0 where
  pub call : Call
  pub version : Version
  pub tries : Option ℕ
  pub form : Form
  pub changes : Option Text
  pub names : Bool
  pub aggregate_names : Option Text
  pub detail : Bool
  pub paths : Paths

-- whether it is about tables: how a query is read isn't, nor are the parameters
abbrev pub is_tabled : Call → Bool
is_tabled (job reading query) = false
is_tabled (job parameters query) = false
is_tabled _ = true

-- the path of the file that is read beside the tables, where they ask for one: a table of flavors, or an answer of the service
abbrev pub file_called : Call → Option Text
file_called (plan path metrics) = Some path
file_called (beside path query) = Some path
file_called _ = None

-- whether it is an answer of the service
abbrev pub calls_answer : Call → Bool
calls_answer (beside path query) = true
calls_answer _ = false

-- the task of a command and a query, with these changes, with this table of names of aggregates, and with these paths where more is told
abbrev pub task_for : Line → Option Text → Option Text → Option Paths → Command → Text → Task
task_for line changes names detail command query =
    record { command = command; query = query; version = line.version; tries = line.tries; changes = changes; names = names; detail = detail }

-- the task that they ask for, with these bytes of that file, with these changes, with this table of names of aggregates, and with these paths where more is told; none
-- where they ask for a session
abbrev pub task_in : Line → Text → Option Text → Option Text → Option Paths → Option Task
task_in line file changes names detail = task_called line.call
  where
    task_called : Call → Option Task
    task_called (plan path metrics) = Some (task_for line changes names detail (capacity file metrics) [])
    task_called (beside path query) = Some (task_for line changes names detail (compare file) query)
    task_called (job command query) = Some (task_for line changes names detail command query)
    task_called session = None

-- a command with its query, without the path of a URL before it
abbrev pub asking : List Row → Command → Option Call
asking rows command = option_map (λ query. job command (past_mark query)) (first_of (codes "query") rows)

-- how a query is read, where there is one; else the parameters
abbrev pub reading_of : Option Text → Call
reading_of None = job parameters []
reading_of (Some query) = job reading (past_mark query)

-- the token to begin after
abbrev pub after_of : List Row → Option Text
after_of rows = first_of (codes "after") rows

-- the host at whose root candidates are to stand
abbrev pub at_of : List Row → Option Text
at_of rows = first_of (codes "at") rows

-- whether traits are written: where they aren't left out
abbrev pub traits_of : List Row → Bool
traits_of rows = not (is_set (first_of (codes "no-traits") rows))

-- whether numbers are written in place of what is counted
abbrev pub sum_of : List Row → Bool
sum_of rows = is_set (first_of (codes "sum") rows)

-- whether of all roots those alone are asked for that fit
abbrev pub fits_of : List Row → Bool
fits_of rows = is_set (first_of (codes "fits") rows)

-- an answer of the service, with its query, without the path of a URL before it
abbrev pub asking_beside : List Row → Text → Option Call
asking_beside rows path = option_map (λ query. beside path (past_mark query)) (first_of (codes "query") rows)

-- what the entries of a command call for; none where one that it needs isn't there
unfoldable pub call_of : Name → List Row → Option Call
call_of name.Check rows = Some (job check [])
call_of name.Candidates rows = asking rows (candidates (after_of rows) (at_of rows) (traits_of rows))
call_of name.Tokens rows = asking rows (tokens (after_of rows) (at_of rows))
call_of name.List rows = asking rows (list (after_of rows) (at_of rows) (traits_of rows))
call_of name.Fill rows = asking rows (fill (sum_of rows))
call_of name.Verify rows = option_and_then (λ token. asking rows (verify token)) (first_of (codes "token") rows)
call_of name.Explain rows = asking rows explain
call_of name.Hosts rows = asking rows (hosts (sum_of rows) (fits_of rows) (within_in rows))
call_of name.Why rows = option_and_then (λ host. asking rows (why host)) (first_of (codes "host") rows)
call_of name.Capacity rows = option_map (λ path. plan path (is_set (first_of (codes "prometheus") rows))) (first_of (codes "flavors") rows)
call_of name.Compare rows = option_and_then (asking_beside rows) (first_of (codes "answer") rows)
call_of name.Audit rows = Some (job (audit (first_of (codes "zone") rows)) [])
call_of name.Query rows = Some (reading_of (first_of (codes "query") rows))
call_of name.Session rows = Some session

-- whether more is said: what to do about a fault, and of what a rule is broken; every command may be asked
abbrev pub detail_of : List Row → Bool
detail_of rows = is_set (first_of (codes "detail") rows)

-- whether names stand in place of UUIDs
abbrev pub names_of : List Row → Bool
names_of rows = is_set (first_of (codes "names") rows)

-- the path of the table of names of aggregates, where a folder is given
abbrev pub aggregate_names_of : List Row → Option Text
aggregate_names_of rows = option_map (λ folder. folder ++ codes "/aggregate-names.csv") (folder_of rows)

-- the path of a table's file in the folder
abbrev pub path_in : Text → Table → Text
path_in folder table = folder ++ codes "/" ++ table_name table ++ codes ".csv"

-- the paths of all five
abbrev pub paths_in : Text → Paths
paths_in folder = record {
  providers = path_in folder Providers;
  inventories = path_in folder Inventories;
  usages = Some (path_in folder Usages);
  traits = Some (path_in folder Traits);
  aggregates = Some (path_in folder Aggregates);
}

-- the paths that the options say, with these two
abbrev pub paths_said : List Row → Text → Text → Paths
paths_said rows providers inventories = record {
  providers = providers;
  inventories = inventories;
  usages = option_of rows Usages;
  traits = option_of rows Traits;
  aggregates = option_of rows Aggregates;
}

-- the paths of the tables: of their files in the folder, or what their options say; none where one of the first two isn't there
abbrev pub paths_by : Option Text → List Row → Option Paths
paths_by (Some folder) rows = Some (paths_in folder)
paths_by None rows =
    option_and_then (λ providers. option_map (paths_said rows providers) (option_of rows Inventories)) (option_of rows Providers)

abbrev pub paths_of : List Row → Option Paths
paths_of rows = paths_by (folder_of rows) rows

-- no paths
abbrev pub no_paths : Paths
no_paths = record { providers = []; inventories = []; usages = None; traits = None; aggregates = None }

-- the paths of the tables, where a command is about some
abbrev pub needed_paths : Name → List Row → Option Paths
needed_paths name rows = if has_tables name then paths_of rows else Some no_paths

-- the line has what these entries of a command say
pub record IsMadeOf (name : Name) (rows : List Row) (line : Line) : Type 0 where
  pub call : call_of name rows ≡ Some line.call
  pub version : version_of rows ≡ Some line.version
  pub tries : tries_of rows ≡ Some line.tries
  pub form : form_of rows ≡ Some line.form
  pub changes : first_of (codes "change") rows ≡ line.changes
  pub names : names_of rows ≡ line.names
  pub aggregate_names : aggregate_names_of rows ≡ line.aggregate_names
  pub detail : detail_of rows ≡ line.detail
  pub paths : needed_paths name rows ≡ Some line.paths

-- the line is the command that `clap` found, with its entries
abbrev pub Says : Option (Name × List Row) → Line → Type 0
Says None line = ⊥
Says (Some p) line = IsMadeOf p.0 p.1 line

-- `clap` found a command of the program with all the entries that it needs
abbrev pub is_complete : Option (Name × List Row) → Bool
is_complete None = false
is_complete (Some p) = is_some (call_of p.0 p.1)

-- the answer for words with these kinds of fault: help, or the version, where it is among them
abbrev pub Tells : Kinds → WordFault → Type 0
Tells kinds (Help text) = IsAmong DisplayHelp kinds
Tells kinds (fault.Version text) = IsAmong DisplayVersion kinds
Tells kinds (Refused text) = (kind : ErrorKind) × (kind ≢ DisplayHelp) × (kind ≢ DisplayVersion) × IsAmong kind kinds
Tells kinds NoMemory = ⊤

-- ---- what is kept of it

abbrev pub call_shown : rust.Call → Call
call_shown (variant.Job command query) = job (command_shown command) query.now
call_shown (variant.Plan flavors metrics) = plan flavors.now metrics
call_shown (variant.Beside path query) = beside path.now query.now
call_shown variant.Session = session

abbrev pub paths_kept : FiveTables (String Global) → Paths
paths_kept paths = record {
  providers = string_bytes paths.providers;
  inventories = string_bytes paths.inventories;
  usages = option_map string_bytes paths.usages;
  traits = option_map string_bytes paths.traits;
  aggregates = option_map string_bytes paths.aggregates;
}
