-- What is told behind an answer that was written, where more is told: that nothing counts as used, and where the service may answer otherwise.
use Rattle.std.specs.Prelude.{ℕ, Bool, true, false, ◌==◌, List, [], ◌++◌, codes, Option, Some, None, if◌then◌else◌}
use Rattle.std.specs.Option.{option_map_or}
use Rattle.ac_cloud.specs.World.{World}
use Rattle.ac_query.specs.Asked.{Asked}
use Rattle.ac_query.specs.Laws.Gathered.{asked_by}
use Rattle.ac_query.specs.Pairs.{pairs_of}
use Rattle.ac_query.specs.Shown.Queries.{asked_of}
use Rattle.ac_report.specs.Findings.Explanation.Differing.{differs_lines}
use Rattle.ac_run.specs.Changing.{world_in}
use Rattle.ac_run.specs.Feeds.{Bytes}
use Rattle.ac_run.specs.Naming.{task_told}
use Rattle.ac_run.specs.Tasks.{Command, Paths, Task}
use Rattle.ac_run.specs.Tasks as command
use Rattle.ac_run.specs.declared.wanted.Wanted.{Wanted}
use Rattle.ac_run.specs.declared.wanted.Wanted.TheVariants as wanted

-- whether a command's answer says nothing of the service by itself
abbrev pub is_noted : Command → Bool
is_noted (command.tokens after at) = true
is_noted (command.fill sum) = true
is_noted (command.hosts sum only_fitting within) = true
is_noted (command.compare answer) = true
is_noted _ = false

-- where the service may answer a query otherwise, as far as a candidate shows it
abbrev pub noted_by : Command → World → Asked → List ℕ
noted_by command world asked = if is_noted command then differs_lines world.providers asked true else []

-- nothing counts as used: no table says what is, or it has no rows
unfoldable pub none_given : List ℕ
none_given = codes "usages: no table is given, so nothing counts as used\n"

unfoldable pub none_listed : List ℕ
none_listed = codes "usages: the table has no rows, so nothing counts as used\n"

-- what is told of the usages by the path of their table: where there is none, and by a check also where it has no rows
abbrev pub usages_told : Command → Option (List ℕ) → World → List ℕ
usages_told command.reading path world = []
usages_told command.parameters path world = []
usages_told command.check (Some path) world = if world.sizes.usages == 0 then none_listed else []
usages_told _ (Some path) world = []
usages_told _ None world = none_given

-- the same before what else is told, where more is told at all
abbrev pub told_behind : Command → Option Paths → World → List ℕ → List ℕ
told_behind command detail world note = option_map_or (λ paths. usages_told command paths.usages world ++ note) detail []

-- of a task
abbrev pub noted_in : Task → World → List ℕ
noted_in task world = told_behind task.command task.detail world (noted_by task.command world (asked_by task.version (pairs_of task.query)))

-- over the bytes of five tables
abbrev pub noted : Task → Bytes → List ℕ
noted task b = noted_in (task_told task (world_in task.changes b)) (world_in task.changes b)

-- of what is wanted
abbrev pub note_to : Wanted → World → List ℕ
note_to (wanted.Lines page) world = differs_lines world.providers (asked_of page.query) true
note_to (wanted.Fill query sum) world = differs_lines world.providers (asked_of query) true
note_to (wanted.Hosts query sum only_fitting within) world = differs_lines world.providers (asked_of query) true
note_to (wanted.Comparison query answer) world = differs_lines world.providers (asked_of query) true
note_to _ world = []
