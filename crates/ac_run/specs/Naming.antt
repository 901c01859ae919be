-- A task in which names stand in place of UUIDs: the task with the UUIDs, or why one stands for nothing.
use Rattle.std.specs.Prelude.{◌≡◌, ⊤, ℕ, List, Option, Some, None, Result, Ok, Err, length, nat_lt, string_bytes, if◌then◌else◌}
use Rattle.std.specs.Option.{option_map}
use Rattle.std.specs.Result.{result_map_both, result_unwrap_or}
use Rattle.ac_cloud.specs.World.{World}
use Rattle.ac_report.specs.Called.{Called, providers_called}
use Rattle.ac_run.specs.Tasks.{Command, Task, candidates, capacity, flavors_in, list, token_in, tokens, verify}
use Rattle.ac_run.specs.Wanted.Named.{Naming, and_then, mapped, query_with_ids, token_with_ids}
use Rattle.ac_run.specs.Wanted.NamedFlavors.{table_with_ids}
use Rattle.ac_run.specs.declared.refusal.NamesRefusal.{NamesRefusal}
use Rattle.ac_run.specs.declared.refusal.NamesRefusal.TheVariants as names
use Rattle.ac_run.specs.declared.wanted.named.texts.Texts.{Texts}
use Rattle.ac_tables.specs.Called.{called_fault, called_said}
use Rattle.ac_tables.specs.Drain.{most_bytes}
use Rattle.ac_tables.specs.Tables.Rows.{records_of}

-- why a table of names of aggregates is refused: for its size, or for the first record with a fault
unfoldable pub names_refused : List ℕ → Option NamesRefusal
names_refused text =
    if nat_lt most_bytes (length text) then Some names.TooLarge
    else option_map (λ f. names.Record f.0 f.1) (called_fault (records_of text))

-- what has names in a world: its providers, and the aggregates of such a table
abbrev pub naming_in : World → List ℕ → Naming
naming_in world text = record { providers = providers_called world.providers; aggregates = called_said (records_of text) }

-- a command with this token, where it has one
abbrev pub with_token : Command → Option (List ℕ) → Command
with_token (candidates after at traits) token = candidates token at traits
with_token (tokens after at) token = tokens token at
with_token (list after at traits) token = list token at traits
with_token (verify old) (Some token) = verify token
with_token command token = command

-- a command with this table of flavors, where it has one
abbrev pub with_flavors : Command → Option (List ℕ) → Command
with_flavors (capacity old metrics) (Some flavors) = capacity flavors metrics
with_flavors command flavors = command

-- a token with UUIDs in place of names, where there is one
abbrev pub token_asked : Called → Option (List ℕ) → Result (Option (List ℕ)) NamesRefusal
token_asked called None = Ok None
token_asked called (Some text) = result_map_both Some names.Token (token_with_ids called text)

-- a table of flavors with UUIDs in place of names, where there is one
abbrev pub flavors_asked : Naming → Option (List ℕ) → Result (Option (List ℕ)) NamesRefusal
flavors_asked naming None = Ok None
flavors_asked naming (Some text) = result_map_both Some (λ f. names.Flavor f.0 f.1) (table_with_ids naming text)

-- a query with UUIDs in place of names
abbrev pub query_asked : Naming → List ℕ → Result (List ℕ) NamesRefusal
query_asked naming query = result_map_both (λ text. text) (λ f. names.Pair f.0 f.1) (query_with_ids naming query)

-- a task with these texts in place of its own, where it has them
abbrev pub with_texts : Task → List ℕ → Option (List ℕ) → Option (List ℕ) → Task
with_texts task query token flavors = record task { query = query; command = with_flavors (with_token task.command token) flavors }

-- a task with UUIDs in place of names
abbrev pub task_with_ids : Naming → Task → Result Task NamesRefusal
task_with_ids naming task =
    and_then (query_asked naming task.query) (λ query.
    and_then (token_asked naming.providers (token_in task.command)) (λ token.
    mapped (with_texts task query token) (flavors_asked naming (flavors_in task.command))))

-- unless the table of names is refused
abbrev pub past_table : Option NamesRefusal → Result Task NamesRefusal → Result Task NamesRefusal
past_table None asked = asked
past_table (Some why) asked = Err why

-- what a task asks in a world: with UUIDs in place of names, where they stand for some; else as it is
abbrev pub asked_by_names : Option (List ℕ) → Task → World → Result Task NamesRefusal
asked_by_names None task world = Ok task
asked_by_names (Some text) task world = past_table (names_refused text) (task_with_ids (naming_in world text) task)

abbrev pub task_asked : Task → World → Result Task NamesRefusal
task_asked task world = asked_by_names task.names task world

-- the same, and the task as it is where a name stands for nothing
abbrev pub task_told : Task → World → Task
task_told task world = result_unwrap_or (task_asked task world) task

-- ---- what is kept of it

-- a task with these texts
abbrev pub task_by : Task → Texts → Task
task_by task texts = with_texts task (string_bytes texts.query) (option_map string_bytes texts.token) (option_map (λ t. t.items) texts.flavors)

-- why a table is refused is told, or a growth was refused
abbrev pub ExplainsNames : Option NamesRefusal → NamesRefusal → Type 0
ExplainsNames reason names.NoMemory = ⊤
ExplainsNames reason why = reason ≡ Some why

-- the fault is told, or a growth was refused
abbrev pub TellsNames : {X : Type 0} → Result X NamesRefusal → NamesRefusal → Type 0
TellsNames found names.NoMemory = ⊤
TellsNames found why = found ≡ Err why
