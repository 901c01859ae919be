-- What a run answers: its output, its line on the error sink, and its status.
use Rattle.std.specs.Prelude.{ℕ, Bool, true, false, List, [], ◌++◌, codes, is_some, map, nat_lt, Option, Some, None, Result, Ok, Err, if◌then◌else◌}
use Rattle.std.specs.Option.{option_and_then, unwrap_or}
use Rattle.ac_base.specs.Texts.{id_value}
use Rattle.ac_tables.specs.Tables.{Tables, tables_fault, world_stated}
use Rattle.ac_cloud.specs.World.{World, Provider}
use Rattle.ac_cloud.specs.Cloud.Hosts.{host_of}
use Rattle.ac_cloud.specs.declared.cloud.provider_name.HostFault.{HostFault}
use Rattle.ac_tables.specs.declared.fault.Table.{Table}
use Rattle.ac_tables.specs.declared.fault.TableFault.{TableFault}
use Rattle.ac_tables.specs.declared.fault.TableFault.TheVariants as fault
use Rattle.ac_query.specs.declared.version.Version.{Version}
use Rattle.ac_query.specs.Asked.{Asked}
use Rattle.ac_query.specs.Faults.{query_fault}
use Rattle.ac_rules.specs.Located.{places_of}
use Rattle.ac_query.specs.Laws.Gathered.{asked_by}
use Rattle.ac_query.specs.Pairs.{pairs_of}
use Rattle.ac_query.specs.Pairs.Values.{ids_value}
use Rattle.ac_rules.specs.Judge.{judge}
use Rattle.ac_rules.specs.Pages.{cut}
use Rattle.ac_search.specs.At.{rest_at}
use Rattle.ac_prune.specs.Fitting.{fits_at}
use Rattle.ac_report.specs.ListRows.{list_text}
use Rattle.ac_report.specs.Called.{lines_by}
use Rattle.ac_report.specs.Texts.{body, shown_providers}
use Rattle.ac_fill.specs.Bounds.{most_placed, shorts}
use Rattle.ac_fill.specs.Filled.{filled}
use Rattle.ac_run.specs.Outputs.{counted, counts, detailed_text, fill_status, sum_text, verdict_status, verdict_text}
use Rattle.ac_run.specs.Outputs.Parameters.{parameters_text}
use Rattle.ac_run.specs.Outputs.QueryRows.{reading_text}
use Rattle.ac_find.specs.Audit.{findings}
use Rattle.ac_report.specs.Findings.AuditRows.{audit_status, audit_text}
use Rattle.ac_report.specs.Findings.Explanation.{explanation_status, explanation_text}
use Rattle.ac_report.specs.Findings.Explanation.Candidates.{has_candidate}
use Rattle.ac_report.specs.Findings.HostRows.{hosts_status, hosts_text}
use Rattle.ac_report.specs.Findings.HostSums.{sums_text}
use Rattle.ac_report.specs.Findings.WhyRows.{root_place, why_status, why_text}
use Rattle.ac_change.specs.declared.fault.ChangeKind.{ChangeKind}
use Rattle.ac_run.specs.Capacity.{capacity_status, room_of, rooms_text}
use Rattle.ac_run.specs.Changing.{change_fault, change_line, change_remedy, world_in}
use Rattle.ac_run.specs.Compared.{answer_read, compared_status, compared_text}
use Rattle.ac_run.specs.Comparing.{answer_refused}
use Rattle.ac_run.specs.Feeds.{Bytes, too_large}
use Rattle.ac_run.specs.Flavors.{Plan, flavors_refused, plans_of}
use Rattle.ac_run.specs.Lines.{answer_line, names_line, too_large_line, record_line, query_line, token_line, host_line, memory_line}
use Rattle.ac_run.specs.Details.{asked_text, behind, fault_text, names_remedy, size_text}
use Rattle.ac_run.specs.Naming.{task_asked}
use Rattle.ac_run.specs.Refusals.{status_of_names}
use Rattle.ac_run.specs.declared.refusal.NamesRefusal.{NamesRefusal}
use Rattle.ac_run.specs.Wanted.Given.{tables_in, token_refusal}
use Rattle.ac_run.specs.Tasks.{Command, Paths, Task, token_in}
use Rattle.ac_run.specs.Tasks as command

-- what is answered
pub record Outcome : Type 0 where
  pub output : List ℕ
  pub line : List ℕ
  pub status : ℕ

-- a refusal: its line and its status, and no output
abbrev pub refused : List ℕ → ℕ → Outcome
refused line status = record { output = []; line = line; status = status }

-- an output, with its status
abbrev pub written : List ℕ → ℕ → Outcome
written output status = record { output = output; line = []; status = status }

-- what is said of a fault, where there is one, and else this
abbrev pub told : {X : Type 0} → Option X → (X → Outcome) → Outcome → Outcome
told None say otherwise = otherwise
told (Some x) say otherwise = say x

-- how it is said: by names, or by UUIDs; and with of what a rule is broken, or without
pub record Manner : Type 0 where
  pub named : Bool
  pub detail : Bool

abbrev pub manner_of : Task → Manner
manner_of task = record { named = is_some task.names; detail = is_some task.detail }

-- ---- the outputs

-- the verdict on a list of ids, with the first thing by which a rule is broken where that is asked
abbrev pub verdict_on : List Provider → Bool → Asked → Option (List ℕ) → Outcome
verdict_on all detail asked None = written (codes "unknown provider\n") 1
verdict_on all false asked (Some list) = written (verdict_text (judge all asked list)) (verdict_status (judge all asked list))
verdict_on all true asked (Some list) = written (detailed_text all asked list (judge all asked list)) (verdict_status (judge all asked list))

-- ---- what is given of a token

-- the ids of a token, where there is one that is accepted
abbrev pub ids_given : Option (List ℕ) → Option (List ℕ)
ids_given token = option_and_then ids_value token

-- ---- the answer

-- what is said of an accepted query and the ids of its token
abbrev pub Says : Type 0
Says = Asked → Option (List ℕ) → Outcome

-- the candidates after some ids, or all, at a root, where one is named, as many as the limit says
abbrev pub page_at : List Provider → Asked → Option ℕ → Option (List ℕ) → List (List ℕ)
page_at all asked root ids = cut asked.limit (rest_at all asked root ids)

abbrev pub page_body : List Provider → Bool → Option ℕ → Says
page_body all traits root asked ids = written (body (shown_providers traits all) asked (page_at all asked root ids)) 0

abbrev pub page_lines : List Provider → Bool → Option ℕ → Says
page_lines all named root asked ids = written (lines_by named all (page_at all asked root ids)) 0

abbrev pub page_rows : List Provider → Bool → Option ℕ → Says
page_rows all traits root asked ids = written (list_text (shown_providers traits all) asked (page_at all asked root ids)) 0

-- how many placements are wanted: as many as the limit says, which a sum leaves aside
abbrev pub fill_limit : Bool → Asked → Option ℕ
fill_limit false asked = asked.limit
fill_limit true asked = None

-- placements, one after another: their tokens, or their names; or how many there are, how many there can be at most, and what roots are short of
abbrev pub fill_text : Bool → Bool → List Provider → Asked → List (List ℕ) → List ℕ
fill_text named false all asked ts = lines_by named all ts
fill_text named true all asked ts = sum_text (counted ts) (most_placed all asked) (shorts all asked)

-- what is said of some placements
abbrev pub fill_said : Bool → Bool → List Provider → Asked → List (List ℕ) → Outcome
fill_said named sum all asked ts = written (fill_text named sum all asked ts) (fill_status (fill_limit sum asked) ts)

abbrev pub fills_by : Bool → List Provider → Bool → Says
fills_by named all sum asked ids = fill_said named sum all asked (filled (fill_limit sum asked) all asked)

-- by their UUIDs
abbrev pub fills : List Provider → Bool → Says
fills = fills_by false

abbrev pub verdict_line : List Provider → Bool → Says
verdict_line all detail asked ids = verdict_on all detail asked (option_and_then (places_of all) ids)

abbrev pub explanation : List Provider → Says
explanation all asked ids = written (explanation_text all asked (has_candidate all asked)) (explanation_status (has_candidate all asked))

-- which roots fit, and what the others lack, or how many of them lack what: of all roots, or of those of an aggregate
abbrev pub hosts_told : Bool → List Provider → Asked → Bool → Option ℕ → List ℕ
hosts_told false all asked only_fitting within = hosts_text all asked only_fitting within
hosts_told true all asked only_fitting within = sums_text all asked only_fitting within

abbrev pub host_rows : List Provider → Bool → Bool → Option ℕ → Says
host_rows all sum only_fitting within asked ids = written (hosts_told sum all asked only_fitting within) (hosts_status all asked within)

-- how far a query comes in the tree of a provider
abbrev pub why_not : List Provider → Asked → ℕ → Outcome
why_not all asked host = written (why_text all asked (root_place all host)) (why_status (fits_at all asked (root_place all host)))

-- what is said of the provider that is named, where one is
abbrev pub on_host : Result ℕ HostFault → (ℕ → Outcome) → Outcome
on_host (Ok host) say = say host
on_host (Err f) say = refused (host_line f) 5

-- the place of the root of a provider, where one is found
abbrev pub root_found : List Provider → Result ℕ HostFault → Option ℕ
root_found all (Ok host) = Some (root_place all host)
root_found all (Err f) = None

-- that of the provider that is named, where one is
abbrev pub root_named : List Provider → Option (List ℕ) → Option ℕ
root_named all host = option_and_then (λ host. root_found all (host_of all host)) host

-- what is said at the root of the provider that is named, or of all where none is
abbrev pub at_host : List Provider → Option (List ℕ) → (Option ℕ → Says) → Says
at_host all None say = say None
at_host all (Some host) say = λ asked ids. on_host (host_of all host) (λ host. say (Some (root_place all host)) asked ids)

abbrev pub why_rows : List Provider → List ℕ → Says
why_rows all host asked ids = on_host (host_of all host) (λ host. why_not all asked host)

-- how many of each flavor a cloud can hold: as rows, or as metrics
abbrev pub capacities : Bool → List Provider → List Plan → Outcome
capacities metrics all plans = written (rooms_text metrics (map (room_of all) plans)) (capacity_status (map (room_of all) plans))

-- what is said of a table of flavors, as a version reads their queries, unless it is refused
abbrev pub capacity_said : Version → List ℕ → Bool → List Provider → Outcome
capacity_said version flavors metrics all =
    told (flavors_refused version flavors) (λ why. refused why.line 4) (capacities metrics all (plans_of version flavors))

-- what an answer of the service and the candidates have that the other hasn't
abbrev pub comparison : List Provider → Asked → List (List ℕ) → Outcome
comparison all asked texts = written (compared_text all asked texts) (compared_status all asked texts)

-- the same of its bytes, unless they are refused
abbrev pub compare_said : List ℕ → List Provider → Says
compare_said answer all asked ids = told (answer_refused answer) (λ why. refused (answer_line why) 5) (comparison all asked (unwrap_or (answer_read answer) []))

-- what is amiss in a cloud, with an aggregate as the zone of hosts, or with none
abbrev pub amiss : World → Option ℕ → Outcome
amiss world zone = written (audit_text (findings world zone)) (audit_status (findings world zone))

-- how a query is read
abbrev pub reading : Says
reading asked ids = written (reading_text asked) 0

-- the parameters of a query
abbrev pub parameters : Outcome
parameters = written parameters_text 0

-- the aggregate that a text names by its UUID; another text names none
abbrev pub zone_named : Option (List ℕ) → Option ℕ
zone_named zone = option_and_then id_value zone

-- what is said, unless the token is refused
abbrev pub past_token : Says → Option (List ℕ) → Asked → Outcome
past_token say token asked = told (token_refusal asked token) (λ f. refused (token_line f) 5) (say asked (ids_given token))

-- what is said of a query, as a version reads it, and of a token, unless one of them is refused
abbrev pub past_query : Says → Option (List ℕ) → Version → List ℕ → Outcome
past_query say token version query =
    told (query_fault version query) (λ f. refused (query_line f) 4) (past_token say token (asked_by version (pairs_of query)))

-- what a command says of an accepted query, in a world: by names, where they stand in place of UUIDs; and of what a rule is broken, where more is told
abbrev pub said_by : Command → Manner → World → Says
said_by command.check manner world = λ asked ids. written (counts world.sizes) 0
said_by (command.candidates after at traits) manner world = at_host world.providers at (page_body world.providers traits)
said_by (command.tokens after at) manner world = at_host world.providers at (page_lines world.providers manner.named)
said_by (command.list after at traits) manner world = at_host world.providers at (page_rows world.providers traits)
said_by (command.fill sum) manner world = fills_by manner.named world.providers sum
said_by (command.verify token) manner world = verdict_line world.providers manner.detail
said_by command.explain manner world = explanation world.providers
said_by (command.hosts sum only_fitting within) manner world = host_rows world.providers sum only_fitting within
said_by (command.why host) manner world = why_rows world.providers host
said_by (command.capacity flavors metrics) manner world = λ asked ids. capacities metrics world.providers []
said_by (command.compare answer) manner world = compare_said answer world.providers
said_by (command.audit zone) manner world = λ asked ids. amiss world (zone_named zone)
said_by command.reading manner world = reading
said_by command.parameters manner world = λ asked ids. parameters

-- the answer of a command; `check`, `audit` and the parameters ask for no query, and `capacity` for those of its flavors
abbrev pub answer_by : Command → Manner → Version → List ℕ → World → Outcome
answer_by command.check manner version query world = written (counts world.sizes) 0
answer_by (command.capacity flavors metrics) manner version query world = capacity_said version flavors metrics world.providers
answer_by (command.audit zone) manner version query world = amiss world (zone_named zone)
answer_by command.parameters manner version query world = parameters
answer_by asks manner version query world = past_query (said_by asks manner world) (token_in asks) version query

-- the answer to a task in a world
abbrev pub answer_in : Task → World → Outcome
answer_in task world = answer_by task.command (manner_of task) task.version task.query world

-- ---- with what is to be done about a refusal

-- a refusal, which has a status above 2, with this text behind its line; any other outcome as it is
abbrev pub with_detail : List ℕ → Outcome → Outcome
with_detail text o = if nat_lt 2 o.status then record o { line = o.line ++ text } else o

-- what is to be done about a task that is refused in a world, where more is told
abbrev pub remedy_in : Task → World → List ℕ
remedy_in task world = behind task.detail (λ paths. asked_text world.providers task)

-- the answer to a task in a world, and behind a refusal what is to be done
abbrev pub answer_within : Task → World → Outcome
answer_within task world = with_detail (remedy_in task world) (answer_in task world)

-- what is said of a task with UUIDs in place of names, unless a name stands for nothing
abbrev pub past_names : Option Paths → Result Task NamesRefusal → (Task → Outcome) → Outcome
past_names detail (Ok asked) say = say asked
past_names detail (Err why) say = refused (names_line why ++ behind detail (λ paths. names_remedy why)) (status_of_names why)

-- the answer to a task in a world, in which names may stand in place of UUIDs
abbrev pub answer_named : Task → World → Outcome
answer_named task world = past_names task.detail (task_asked task world) (λ asked. answer_within asked world)

-- a table that has too many bytes
abbrev pub size_refused : Option Paths → Table → Outcome
size_refused detail t = refused (too_large_line t ++ behind detail (λ paths. size_text paths t)) 3

-- the first fault of the tables
abbrev pub table_refused : Option Paths → Tables → TableFault → Outcome
table_refused detail stated (fault.At t row k) = refused (record_line t row k ++ behind detail (λ paths. fault_text paths stated t row k)) 3
table_refused detail stated fault.NoMemory = refused memory_line 7

-- the first fault of changes
abbrev pub change_refused : Option Paths → ℕ × ChangeKind → Outcome
change_refused detail f = refused (change_line f.0 f.1 ++ behind detail (λ paths. change_remedy f.1)) 3

-- what is said of the world that the bytes of five tables state, as changes leave it, unless the tables or the changes are refused
abbrev pub past_tables : Option Paths → Option (List ℕ) → Bytes → (World → Outcome) → Outcome
past_tables detail changes b say =
    told (too_large b) (size_refused detail) (told (tables_fault (tables_in b)) (table_refused detail (tables_in b))
    (told (change_fault changes (world_stated (tables_in b))) (change_refused detail) (say (world_in changes b))))

-- the answer to a task over the bytes of five tables
unfoldable pub answer : Task → Bytes → Outcome
answer task b = past_tables task.detail task.changes b (answer_named task)
