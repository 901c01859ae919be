-- Which searches may stop before their end, by the tries that they may make.
use Rattle.std.specs.Prelude.{Contains, ℕ, List, Option, None, map}
use Rattle.std.specs.Option.{option_map}
use Rattle.ac_cloud.specs.World.{Provider, World}
use Rattle.ac_query.specs.Asked.{Asked}
use Rattle.ac_query.specs.Laws.Gathered.{asked_by}
use Rattle.ac_query.specs.Pairs.{pairs_of}
use Rattle.ac_query.specs.Shown.Queries.{asked_of}
use Rattle.ac_query.specs.Tokens.{ids_of}
use Rattle.ac_query.specs.declared.version.Version.{Version}
use Rattle.ac_report.specs.Findings.Explanation.Candidates.{ExplanationMayStop}
use Rattle.ac_run.specs.Answer.{ids_given}
use Rattle.ac_run.specs.Changing.{world_in}
use Rattle.ac_run.specs.Feeds.{Bytes}
use Rattle.ac_run.specs.Flavors.{Plan, plan_shown, plans_of}
use Rattle.ac_run.specs.Naming.{task_told}
use Rattle.ac_run.specs.Tasks.{Command, Task}
use Rattle.ac_run.specs.Tasks as command
use Rattle.ac_run.specs.declared.wanted.Wanted.{Wanted}
use Rattle.ac_run.specs.declared.wanted.Wanted.TheVariants as wanted
use Rattle.ac_search.specs.Shown.Walk.{MayStop}

-- a search of one of some flavors may stop
abbrev pub OneMayStop : Option ℕ → List Provider → List Plan → Type 0
OneMayStop tries all plans = (plan : Plan) × Contains plans plan × MayStop tries all plan.asked None

-- a search of a command may stop, with so many tries, where a version reads its queries
abbrev pub SearchMayStop : Command → Version → Option ℕ → List Provider → Asked → Type 0
SearchMayStop command.check version tries all asked = ⊥
SearchMayStop (command.candidates after at traits) version tries all asked = MayStop tries all asked (ids_given after)
SearchMayStop (command.tokens after at) version tries all asked = MayStop tries all asked (ids_given after)
SearchMayStop (command.list after at traits) version tries all asked = MayStop tries all asked (ids_given after)
SearchMayStop (command.fill sum) version tries all asked = MayStop tries all asked None
SearchMayStop (command.verify token) version tries all asked = ⊥
SearchMayStop command.explain version tries all asked = ExplanationMayStop tries all asked
SearchMayStop (command.hosts sum only_fitting within) version tries all asked = MayStop tries all asked None
SearchMayStop (command.why host) version tries all asked = MayStop tries all asked None
SearchMayStop (command.capacity flavors metrics) version tries all asked = OneMayStop tries all (plans_of version flavors)
SearchMayStop (command.compare answer) version tries all asked = MayStop tries all asked None
SearchMayStop (command.audit _) version tries all asked = ⊥
SearchMayStop command.reading version tries all asked = ⊥
SearchMayStop command.parameters version tries all asked = ⊥

-- a search of a task may stop in a world
abbrev pub StopsIn : Task → World → Type 0
StopsIn task world = SearchMayStop task.command task.version task.tries world.providers (asked_by task.version (pairs_of task.query))

-- of one with UUIDs in place of names, over the bytes of five tables
abbrev pub TaskMayStop : Task → Bytes → Type 0
TaskMayStop task b = StopsIn (task_told task (world_in task.changes b)) (world_in task.changes b)

-- a search for what is wanted may stop, with so many tries
abbrev pub AnswerMayStop : Wanted → Option ℕ → List Provider → Type 0
AnswerMayStop wanted.Counts tries all = ⊥
AnswerMayStop (wanted.Body page traits) tries all = MayStop tries all (asked_of page.query) (option_map ids_of page.token)
AnswerMayStop (wanted.Lines page) tries all = MayStop tries all (asked_of page.query) (option_map ids_of page.token)
AnswerMayStop (wanted.Rows page traits) tries all = MayStop tries all (asked_of page.query) (option_map ids_of page.token)
AnswerMayStop (wanted.Fill query sum) tries all = MayStop tries all (asked_of query) None
AnswerMayStop (wanted.Verdict query token detail) tries all = ⊥
AnswerMayStop (wanted.Explanation question) tries all = ExplanationMayStop tries all (asked_of question.query)
AnswerMayStop (wanted.Hosts query sum only_fitting within) tries all = MayStop tries all (asked_of query) None
AnswerMayStop (wanted.Why query host) tries all = MayStop tries all (asked_of query) None
AnswerMayStop (wanted.Capacity plans metrics) tries all = OneMayStop tries all (map plan_shown plans.items)
AnswerMayStop (wanted.Comparison query answer) tries all = MayStop tries all (asked_of query) None
AnswerMayStop (wanted.Amiss _) tries all = ⊥
AnswerMayStop (wanted.Reading query) tries all = ⊥
AnswerMayStop wanted.Parameters tries all = ⊥
