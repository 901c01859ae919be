-- A table of flavors, as what is asked: what each asks for, and why it is refused.
use Rattle.std.specs.Prelude.{ℕ, ◌+◌, nat_lt, List, [], ◌∷◌, codes, length, map, Option, Some, None, if◌then◌else◌}
use Rattle.std.specs.Option.{option_map, option_or}
use Rattle.std.specs.Str.{is_utf8}
use Rattle.ac_query.specs.Asked.{Asked}
use Rattle.ac_query.specs.Faults.{Fault, query_fault}
use Rattle.ac_query.specs.Laws.Gathered.{asked_by}
use Rattle.ac_query.specs.Pairs.{pairs_of}
use Rattle.ac_query.specs.Shown.Faults.{fault_shown}
use Rattle.ac_query.specs.Shown.Queries.{asked_of}
use Rattle.ac_query.specs.declared.version.Version.{Version}
use Rattle.ac_run.specs.Lines.{line_at, memory_line, query_line}
use Rattle.ac_run.specs.declared.capacity.flavors.Plan as rust
use Rattle.ac_run.specs.declared.refusal.FlavorsRefusal.{FlavorsRefusal}
use Rattle.ac_run.specs.declared.refusal.FlavorsRefusal.TheVariants as flavors
use Rattle.ac_tables.specs.Drain.{most_bytes}
use Rattle.ac_tables.specs.Flavors.{Flavor, flavors_fault, flavors_said}
use Rattle.ac_tables.specs.Tables.Names.{kind_name}
use Rattle.ac_tables.specs.Tables.Rows.{records_of}
use Rattle.ac_tables.specs.declared.fault.TableKind.{TableKind}

-- ---- What it asks

-- a flavor whose query is read: its name, what it asks for, and how many of it are wanted
pub record Plan : Type 0 where
  pub name : List ℕ
  pub asked : Asked
  pub wanted : ℕ

abbrev pub plan_of : Version → Flavor → Plan
plan_of version f = record { name = f.name; asked = asked_by version (pairs_of f.query); wanted = f.wanted }

-- all flavors of a table, in the order of its records
abbrev pub plans_of : Version → List ℕ → List Plan
plans_of version text = map (plan_of version) (flavors_said (records_of text))

abbrev pub plan_shown : rust.Plan → Plan
plan_shown plan = record { name = plan.name.items; asked = asked_of plan.query; wanted = plan.wanted }

-- ---- Why it is refused

-- the line of a table whose bytes can't be had, of one with too many, and of a record by its number
unfoldable pub unread_line : List ℕ
unread_line = codes "flavors: Unreadable\n"

unfoldable pub large_line : List ℕ
large_line = codes "flavors: TooLarge\n"

unfoldable pub flavors_name : List ℕ
flavors_name = codes "flavors"

unfoldable pub flavor_line : ℕ → List ℕ → List ℕ
flavor_line row name = line_at flavors_name row name

-- the name of what is wrong with a record whose query is refused
unfoldable pub query_name : List ℕ
query_name = codes "BadQuery"

-- a line, and what stands behind it where more is told
pub record Why : Type 0 where
  pub line : List ℕ
  pub detail : List ℕ

abbrev pub why_record : ℕ × TableKind → Why
why_record fault = record { line = flavor_line fault.0 (kind_name fault.1); detail = [] }

abbrev pub why_query : ℕ → List ℕ → Why
why_query row detail = record { line = flavor_line row query_name; detail = detail }

-- of a record whose query is no text, or has a fault, whose line is told behind
abbrev pub query_refused : Version → ℕ → List ℕ → Option Why
query_refused version row query =
    if is_utf8 query then option_map (λ fault. why_query row (query_line fault)) (query_fault version query) else Some (why_query row [])

-- the first of these, of flavors of which the first stands in this record
abbrev pub first_refused : Version → ℕ → List Flavor → Option Why
first_refused version row [] = None
first_refused version row (f ∷ fs) = option_or (query_refused version row f.query) (first_refused version (row + 1) fs)

-- A table of flavors is refused for its size, for the first record with a fault, or for the first query with one.
unfoldable pub flavors_refused : Version → List ℕ → Option Why
flavors_refused version text =
    if nat_lt most_bytes (length text) then Some (record { line = large_line; detail = [] })
    else option_or (option_map why_record (flavors_fault (records_of text))) (first_refused version 2 (flavors_said (records_of text)))

-- ---- What is told of it

-- the line of a query's fault
abbrev pub query_told : Option Fault → List ℕ
query_told None = memory_line
query_told (Some fault) = query_line fault

abbrev pub why_shown : FlavorsRefusal → Why
why_shown flavors.Unreadable = record { line = unread_line; detail = [] }
why_shown flavors.TooLarge = record { line = large_line; detail = [] }
why_shown (flavors.Record row kind) = why_record (row, kind)
why_shown (flavors.NotText row) = why_query row []
why_shown (flavors.Query row fault) = why_query row (query_told (fault_shown fault))
