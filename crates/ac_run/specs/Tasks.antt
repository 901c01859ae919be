-- What is asked of a run.
use denote.Ref.{Bor}
use Rattle.std.specs.Prelude.{ℕ, Bool, List, Option, Some, None}
use Rattle.std.specs.Option.{option_map}
use Rattle.ac_query.specs.declared.version.Version.{Version}
use Rattle.ac_run.specs.declared.job.Command as rust
use Rattle.ac_run.specs.declared.job.Command.TheVariants as variant
use Rattle.ac_run.specs.declared.job.Job.{Job}
use Rattle.ac_tables.specs.declared.read.FiveTables.{FiveTables}

-- what is to be done: with the token to begin after, or to judge; with the host at whose root candidates are to stand; with traits, or not; with the number of placements in place of their tokens, or not;
-- with how many roots lack what in place of a row for each, or not, with those alone that fit, or all, and with an aggregate that these are of;
-- with the host that is asked about; with the text of a table of flavors, as rows or as metrics; with an answer of the service; with an aggregate as the zone of hosts;
-- how a query is read, and the parameters of a query
pub data Command : Type 0 where
  check : Command
  candidates : Option (List ℕ) → Option (List ℕ) → Bool → Command
  tokens : Option (List ℕ) → Option (List ℕ) → Command
  list : Option (List ℕ) → Option (List ℕ) → Bool → Command
  fill : Bool → Command
  verify : List ℕ → Command
  explain : Command
  hosts : Bool → Bool → Option ℕ → Command
  why : List ℕ → Command
  capacity : List ℕ → Bool → Command
  compare : List ℕ → Command
  audit : Option (List ℕ) → Command
  reading : Command
  parameters : Command

-- the paths of the tables' files, as they were given
abbrev pub Paths : Type 0
Paths = FiveTables (List ℕ)

-- what is asked: the query, the version that reads it, how many tries each search may make, what is changed before, the table of names of aggregates where names stand
-- in place of UUIDs, and the paths where more is told
pub record Task : Type 0 where
  pub command : Command
  pub query : List ℕ
  pub version : Version
  pub tries : Option ℕ
  pub changes : Option (List ℕ)
  pub names : Option (List ℕ)
  pub detail : Option Paths

-- the token to judge, or to begin after
abbrev pub token_in : Command → Option (List ℕ)
token_in (candidates after at traits) = after
token_in (tokens after at) = after
token_in (list after at traits) = after
token_in (verify token) = Some token
token_in _ = None

-- the host that is asked about, or at whose root candidates are to stand
abbrev pub host_in : Command → Option (List ℕ)
host_in (candidates after at traits) = at
host_in (tokens after at) = at
host_in (list after at traits) = at
host_in (why host) = Some host
host_in _ = None

-- the table of flavors
abbrev pub flavors_in : Command → Option (List ℕ)
flavors_in (capacity flavors metrics) = Some flavors
flavors_in _ = None

-- ---- what a job asks

abbrev pub command_shown : rust.Command → Command
command_shown variant.Check = check
command_shown (variant.Candidates after at traits) = candidates (option_map (λ t. t.now) after) (option_map (λ t. t.now) at) traits
command_shown (variant.Tokens after at) = tokens (option_map (λ t. t.now) after) (option_map (λ t. t.now) at)
command_shown (variant.List after at traits) = list (option_map (λ t. t.now) after) (option_map (λ t. t.now) at) traits
command_shown (variant.Fill sum) = fill sum
command_shown (variant.Verify token) = verify token.now
command_shown variant.Explain = explain
command_shown (variant.Hosts sum only_fitting within) = hosts sum only_fitting within
command_shown (variant.Why host) = why host.now
command_shown (variant.Capacity flavors metrics) = capacity flavors.now metrics
command_shown (variant.Compare answer) = compare answer.now
command_shown (variant.Audit zone) = audit (option_map (λ t. t.now) zone)
command_shown variant.Query = reading
command_shown variant.Parameters = parameters

abbrev pub paths_shown : FiveTables (Bor (List ℕ)) → Paths
paths_shown p = record {
  providers = p.providers.now;
  inventories = p.inventories.now;
  usages = option_map (λ t. t.now) p.usages;
  traits = option_map (λ t. t.now) p.traits;
  aggregates = option_map (λ t. t.now) p.aggregates;
}

abbrev pub detail_shown : Option (Bor (FiveTables (Bor (List ℕ)))) → Option Paths
detail_shown detail = option_map (λ paths. paths_shown paths.now) detail

abbrev pub changes_shown : Option (Bor (List ℕ)) → Option (List ℕ)
changes_shown changes = option_map (λ t. t.now) changes

abbrev pub task_of : Job → Task
task_of job = record { command = command_shown job.command; query = job.query.now; version = job.version; tries = job.tries; changes = changes_shown job.changes; names = changes_shown job.names; detail = detail_shown job.detail }
