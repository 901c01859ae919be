-- What is wanted of a cloud, and why what is asked is refused.
pub mod Given
pub mod Mark
pub mod Named
pub mod NamedFlavors
use Rattle.std.specs.Prelude.{◌≡◌, ◌<◌, ℕ, Bool, IfSome, true, List, length, map, Option, Some, None, Result, Err, ⊤}
use Rattle.std.specs.List.{All}
use Rattle.std.specs.Option.{option_map}
use Rattle.ac_cloud.specs.Cloud.Hosts.{host_of}
use Rattle.ac_cloud.specs.World.{Provider, World}
use Rattle.ac_cloud.specs.declared.cloud.provider_name.HostFault.{HostFault}
use Rattle.ac_fill.specs.Filled.{asks_units}
use Rattle.ac_query.specs.Asked.{Asked, slots_of}
use Rattle.ac_query.specs.Faults.{Fault, query_fault}
use Rattle.ac_query.specs.Laws.Gathered.{asked_by}
use Rattle.ac_query.specs.Pairs.{pairs_of}
use Rattle.ac_query.specs.Shown.Faults.{fault_shown}
use Rattle.ac_query.specs.Shown.Queries.{asked_of}
use Rattle.ac_query.specs.Tokens.{ids_of}
use Rattle.ac_query.specs.declared.token.TokenFault.{TokenFault}
use Rattle.ac_run.specs.Answer.{Outcome, amiss, capacities, comparison, explanation, fills_by, host_rows, page_body, page_lines, page_rows, parameters, reading, verdict_line, why_not, written}
use Rattle.ac_run.specs.Compared.Answers.{texts_in}
use Rattle.ac_run.specs.Comparing.{answer_refused}
use Rattle.ac_run.specs.Wanted.Given.{token_refusal}
use Rattle.ac_run.specs.Outputs.{counts}
use Rattle.ac_run.specs.Flavors.{Why, flavors_refused, plan_shown, why_shown}
use Rattle.ac_run.specs.Tasks.{Command, Task, audit, capacity, check, compare, host_in, token_in}
use Rattle.ac_run.specs.Tasks as command
use Rattle.ac_run.specs.declared.refusal.AnswerRefusal.{AnswerRefusal}
use Rattle.ac_run.specs.declared.refusal.AskRefusal.{AskRefusal}
use Rattle.ac_run.specs.declared.refusal.AskRefusal.TheVariants as ask
use Rattle.ac_run.specs.declared.wanted.Wanted.{Wanted}
use Rattle.ac_run.specs.declared.wanted.Wanted.TheVariants as wanted

-- the answer to what is wanted, in a world: its lines by names, or by UUIDs
abbrev pub answer_to : Bool → Wanted → World → Outcome
answer_to named wanted.Counts world = written (counts world.sizes) 0
answer_to named (wanted.Body page traits) world = page_body world.providers traits page.root (asked_of page.query) (option_map ids_of page.token)
answer_to named (wanted.Lines page) world = page_lines world.providers named page.root (asked_of page.query) (option_map ids_of page.token)
answer_to named (wanted.Rows page traits) world = page_rows world.providers traits page.root (asked_of page.query) (option_map ids_of page.token)
answer_to named (wanted.Fill query sum) world = fills_by named world.providers sum (asked_of query) None
answer_to named (wanted.Verdict query token detail) world = verdict_line world.providers detail (asked_of query) (Some (ids_of token))
answer_to named (wanted.Explanation question) world = explanation world.providers (asked_of question.query) None
answer_to named (wanted.Hosts query sum only_fitting within) world = host_rows world.providers sum only_fitting within (asked_of query) None
answer_to named (wanted.Why query host) world = why_not world.providers (asked_of query) host
answer_to named (wanted.Capacity plans metrics) world = capacities metrics world.providers (map plan_shown plans.items)
answer_to named (wanted.Comparison query answer) world = comparison world.providers (asked_of query) (texts_in answer)
answer_to named (wanted.Amiss zone) world = amiss world zone
answer_to named (wanted.Reading query) world = reading (asked_of query) None
answer_to named wanted.Parameters world = parameters

-- The token on which a verdict is wanted has an id for each slot of the query; a query that is placed again and again asks for an amount of a class; and
-- the provider that is asked about is there. So does that of each flavor.
abbrev pub IsSound : List Provider → Wanted → Type 0
IsSound all (wanted.Body page traits) = IfSome page.root (λ root. root < length all)
IsSound all (wanted.Lines page) = IfSome page.root (λ root. root < length all)
IsSound all (wanted.Rows page traits) = IfSome page.root (λ root. root < length all)
IsSound all (wanted.Verdict query token detail) = length (ids_of token) ≡ length (slots_of (asked_of query))
IsSound all (wanted.Fill query sum) = asks_units (asked_of query) ≡ true
IsSound all (wanted.Why query host) = host < length all
IsSound all (wanted.Capacity plans metrics) = All (λ plan. asks_units (asked_of plan.query) ≡ true) plans.items
IsSound all _ = ⊤

-- ---- why what is asked is refused

-- what is wrong with a query, or want of memory
abbrev pub ExplainsQuery : Option Fault → AskRefusal → Type 0
ExplainsQuery fault (ask.Query f) = (told : Fault) × (fault_shown f ≡ Some told) × (fault ≡ Some told)
ExplainsQuery fault ask.NoMemory = ⊤
ExplainsQuery fault _ = ⊥

-- what is wrong with a token, or want of memory
abbrev pub ExplainsToken : Option TokenFault → AskRefusal → Type 0
ExplainsToken fault (ask.Token f) = fault ≡ Some f
ExplainsToken fault ask.NoMemory = ⊤
ExplainsToken fault _ = ⊥

-- what is wrong with a table of flavors, or with a query there; or want of memory
abbrev pub ExplainsFlavors : Option Why → AskRefusal → Type 0
ExplainsFlavors reason (ask.Flavors f) = reason ≡ Some (why_shown f)
ExplainsFlavors reason ask.NoMemory = ⊤
ExplainsFlavors reason _ = ⊥

-- what is wrong with an answer of the service, or want of memory
abbrev pub ExplainsAnswer : Option AnswerRefusal → AskRefusal → Type 0
ExplainsAnswer reason (ask.Answer f) = reason ≡ Some f
ExplainsAnswer reason ask.NoMemory = ⊤
ExplainsAnswer reason _ = ⊥

-- why a host names no provider
abbrev pub ExplainsHost : Result ℕ HostFault → AskRefusal → Type 0
ExplainsHost found (ask.Host f) = found ≡ Err f
ExplainsHost found _ = ⊥

-- what is wrong with the token of a command, and else with its host, or with the answer that it compares; or want of memory
abbrev pub ExplainsRest : List Provider → Command → Asked → AskRefusal → Type 0
ExplainsRest all command asked (ask.Query f) = ⊥
ExplainsRest all command asked (ask.Flavors f) = ⊥
ExplainsRest all command asked (ask.Token f) = token_refusal asked (token_in command) ≡ Some f
ExplainsRest all command asked (ask.Host f) =
    (host : List ℕ) × (host_in command ≡ Some host) × (token_refusal asked (token_in command) ≡ None) × (host_of all host ≡ Err f)
ExplainsRest all command asked (ask.Answer f) = (answer : List ℕ) × (command ≡ compare answer) × (answer_refused answer ≡ Some f)
ExplainsRest all command asked ask.NoMemory = ⊤

-- why the host at whose root candidates are to stand names no provider
abbrev pub ExplainsAt : List Provider → Option (List ℕ) → AskRefusal → Type 0
ExplainsAt all at refusal = (host : List ℕ) × (at ≡ Some host) × ExplainsHost (host_of all host) refusal

-- what is wrong with the token to begin after, and else with the host at whose root candidates are to stand; or want of memory
abbrev pub ExplainsPage : List Provider → Asked → Option (List ℕ) → Option (List ℕ) → AskRefusal → Type 0
ExplainsPage all asked after at (ask.Token f) = token_refusal asked after ≡ Some f
ExplainsPage all asked after at (ask.Host f) = (host : List ℕ) × (at ≡ Some host) × (token_refusal asked after ≡ None) × (host_of all host ≡ Err f)
ExplainsPage all asked after at ask.NoMemory = ⊤
ExplainsPage all asked after at _ = ⊥

-- it asks for one query: `check`, `audit` and the parameters ask for none, and `capacity` for those of its flavors
abbrev pub AsksOne : Command → Type 0
AsksOne check = ⊥
AsksOne (capacity flavors metrics) = ⊥
AsksOne (audit _) = ⊥
AsksOne command.parameters = ⊥
AsksOne _ = ⊤

-- What is wrong with the query of a task, and else with its token, its host or its answer, or with its flavors; or want of memory. One that asks for no query is not refused.
abbrev pub ExplainsWanted : Task → World → AskRefusal → Type 0
ExplainsWanted task world ask.NoMemory = ⊤
ExplainsWanted task world (ask.Query f) = AsksOne task.command × ExplainsQuery (query_fault task.version task.query) (ask.Query f)
ExplainsWanted task world (ask.Flavors f) = (flavors : List ℕ) × (metrics : Bool) × (task.command ≡ capacity flavors metrics) × (flavors_refused task.version flavors ≡ Some (why_shown f))
ExplainsWanted task world refusal =
    AsksOne task.command × (query_fault task.version task.query ≡ None) × ExplainsRest world.providers task.command (asked_by task.version (pairs_of task.query)) refusal
