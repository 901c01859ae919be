-- Names in place of UUIDs in what a line asks.
use Rattle.std.specs.Prelude.{ℕ, Bool, List, Option, Some, None, Result, Ok, map, IfSome, ◌≡◌}
use Rattle.std.specs.Option.{is_some, option_map, unwrap_or}
use Rattle.ac_cloud.specs.World.{World}
use Rattle.ac_query.specs.declared.version.Version.{Version}
use Rattle.ac_run.specs.Naming.{naming_in, query_asked, token_asked, with_token}
use Rattle.ac_report.specs.Called.{providers_called}
use Rattle.ac_run.specs.Tasks.{Task, token_in}
use Rattle.ac_run.specs.Wanted.Named.{AreNamed, Naming, and_then, mapped}
use Rattle.ac_run.specs.declared.refusal.NamesRefusal.{NamesRefusal}
use Rattle.ac_session.specs.Questions.{Asked, Text, job, fill, place, claim, release, move}
use Rattle.ac_session.specs.declared.turns.terms.ByNames as rust_names
use Rattle.ac_session.specs.declared.turns.terms.Directory as rust_directory
use Rattle.ac_session.specs.declared.turns.terms.Terms as rust
use Rattle.ac_tables.specs.Called.{called_said, called_shown}
use Rattle.ac_tables.specs.Tables.Rows.{records_of}

-- how lines are read: by which version; and where names stand in place of UUIDs, the table of those of aggregates
pub record Terms : Type 0 where
  pub version : Version
  pub names : Option (List ℕ)

-- whether names stand in place of UUIDs, in what is written too
abbrev pub are_named : Terms → Bool
are_named terms = is_some terms.names

-- a task, answered by names where they stand in place of UUIDs
abbrev pub named_task : Terms → Task → Task
named_task terms task = record task { names = terms.names }

-- ---- what is asked

-- the query of what is asked, where it has one
abbrev pub query_in : Asked → Option Text
query_in (job task) = Some task.query
query_in (fill query) = Some query
query_in (place query name host) = Some query
query_in (claim query token name) = Some query
query_in (release query token) = Some query
query_in _ = None

-- its token, where it has one
abbrev pub token_of : Asked → Option Text
token_of (job task) = token_in task.command
token_of (claim query token name) = Some token
token_of (release query token) = Some token
token_of (move name token) = Some token
token_of _ = None

-- the same with this query and this token, where there are such
abbrev pub asked_with : Asked → Option Text → Option Text → Asked
asked_with (job task) query token = job (record task { query = unwrap_or query task.query; command = with_token task.command token })
asked_with (fill was) query token = fill (unwrap_or query was)
asked_with (place was name host) query token = place (unwrap_or query was) name host
asked_with (claim was given name) query token = claim (unwrap_or query was) (unwrap_or token given) name
asked_with (release was given) query token = release (unwrap_or query was) (unwrap_or token given)
asked_with (move name given) query token = move name (unwrap_or token given)
asked_with asked query token = asked

-- a query with UUIDs in place of names, where there is one
abbrev pub query_told : Naming → Option Text → Result (Option Text) NamesRefusal
query_told naming None = Ok None
query_told naming (Some query) = mapped Some (query_asked naming query)

-- what is asked with UUIDs in place of names; else the first name that stands for nothing
abbrev pub asked_with_ids : Naming → Asked → Result Asked NamesRefusal
asked_with_ids naming asked =
    and_then (query_told naming (query_in asked)) (λ query. mapped (asked_with asked query) (token_asked naming.providers (token_of asked)))

-- what is asked in a world: with UUIDs in place of names, where they stand for some; else as it is
abbrev pub asked_by_table : Option (List ℕ) → World → Asked → Result Asked NamesRefusal
asked_by_table None world asked = Ok asked
asked_by_table (Some table) world asked = asked_with_ids (naming_in world table) asked

abbrev pub asked_told : Terms → World → Asked → Result Asked NamesRefusal
asked_told terms world asked = asked_by_table terms.names world asked

-- ---- as the structs of it show

abbrev pub terms_of : rust.Terms → Terms
terms_of t = record { version = t.version; names = option_map (λ n. n.now.table.now) t.names }

abbrev pub terms_with : Version → Option (List ℕ) → Terms
terms_with version names = record { version = version; names = names }

-- what is looked up is what has names in a world
abbrev pub KnowsNames : World → rust_names.ByNames → Type 0
KnowsNames world n = AreNamed (naming_in world n.table.now) n.naming

abbrev pub Knows : rust.Terms → World → Type 0
Knows t world = IfSome t.names (λ n. KnowsNames world n.now)

-- the table of a directory, where there is one
abbrev pub table_in : Option rust_directory.Directory → Option (List ℕ)
table_in directory = option_map (λ d. d.table.now) directory

-- A directory, where there is one, tells what has names in a world.
abbrev pub IsDirectory : World → Option rust_directory.Directory → Type 0
IsDirectory world directory = IfSome directory (λ d. (map called_shown d.providers.items ≡ providers_called world.providers)
    × (map called_shown d.aggregates.items ≡ called_said (records_of d.table.now)))
