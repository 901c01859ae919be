-- How many of each flavor a cloud can hold: a header and a row for each flavor, as `csv` writes them; or metrics.
use Rattle.std.specs.Prelude.{ℕ, ◌==◌, ◌||◌, Bool, true, false, List, [], ◌∷◌, ◌++◌, codes, length, map, nat_le, nat_lt, Option, Some, None, if◌then◌else◌}
use Rattle.std.specs.Fmt.{decimal}
use Rattle.std.specs.List.{filter, flat_map, fold, list_all}
use Rattle.csv.specs.Writing.{default_writer, row_text}
use Rattle.ac_base.specs.Writing.Pieces.{newline, said}
use Rattle.ac_cloud.specs.World.{Provider}
use Rattle.ac_fill.specs.Bounds.{most_placed, shorts}
use Rattle.ac_fill.specs.Filled.{filled}
use Rattle.ac_prune.specs.Fitting.{fitting}
use Rattle.ac_query.specs.Asked.{Asked}
use Rattle.ac_report.specs.Findings.HostSums.{lack_counts}
use Rattle.ac_report.specs.Names.{shown_name}
use Rattle.ac_run.specs.Flavors.{Plan}
use Rattle.ac_run.specs.Outputs.{counted}
use Rattle.ac_run.specs.declared.capacity.metrics.Metric.{Metric}
use Rattle.ac_run.specs.declared.capacity.metrics.Metric.TheVariants as metric

-- at how many roots a query fits
abbrev pub hosts_fitting : List Provider → Asked → ℕ
hosts_fitting all asked = length (filter (λ fits. fits) (fitting all asked))

-- how many placements there are by first fit
abbrev pub placed_first : List Provider → Asked → ℕ
placed_first all asked = counted (filled None all asked)

-- ---- What is short

-- the first of two things, unless more roots have the second
abbrev pub more_common : Option (List ℕ × ℕ) → List ℕ × ℕ → Option (List ℕ × ℕ)
more_common None other = Some other
more_common (Some first) other = if nat_lt first.1 other.1 then Some other else Some first

-- the first of the things that most roots have
abbrev pub commonest : List (List ℕ × ℕ) → Option (List ℕ × ℕ)
commonest counts = fold more_common None counts

-- the classes that roots are short of where the query fits at some; where it fits at none, what they lack
abbrev pub shortages : List Provider → Asked → List (List ℕ × ℕ)
shortages all asked = if hosts_fitting all asked == 0 then lack_counts all asked else shorts all asked

-- ---- What there is of a flavor

-- a flavor by its name: at how many roots it fits, how many can be placed, by first fit and at most, how many are wanted, and what most roots are short of
pub record Room : Type 0 where
  pub name : List ℕ
  pub hosts : ℕ
  pub at_least : ℕ
  pub at_most : ℕ
  pub wanted : ℕ
  pub short : Option (List ℕ × ℕ)

abbrev pub room_of : List Provider → Plan → Room
room_of all plan = record {
  name = plan.name;
  hosts = hosts_fitting all plan.asked;
  at_least = placed_first all plan.asked;
  at_most = most_placed all plan.asked;
  wanted = plan.wanted;
  short = commonest (shortages all plan.asked);
}

-- as many can be placed as are wanted
abbrev pub has_enough : Room → Bool
has_enough room = nat_le room.wanted room.at_least

-- 0 where of each flavor as many can be placed as are wanted, else 1
abbrev pub capacity_status : List Room → ℕ
capacity_status rooms = if list_all has_enough rooms then 0 else 1

-- ---- As rows

abbrev pub capacity_columns : List (List ℕ)
capacity_columns =
    codes "flavor" ∷ codes "hosts" ∷ codes "at_least" ∷ codes "at_most" ∷ codes "wanted" ∷ codes "short_of" ∷ codes "short_at" ∷ []

-- what most roots are short of, and how many these are
abbrev pub short_of : Option (List ℕ × ℕ) → List ℕ
short_of None = []
short_of (Some short) = short.0

abbrev pub short_at : Option (List ℕ × ℕ) → List ℕ
short_at None = []
short_at (Some short) = decimal short.1

abbrev pub capacity_row : Room → List (List ℕ)
capacity_row room =
    room.name ∷ decimal room.hosts ∷ decimal room.at_least ∷ decimal room.at_most ∷ decimal room.wanted ∷ short_of room.short ∷ short_at room.short ∷ []

unfoldable pub capacity_text : List Room → List ℕ
capacity_text rooms = flat_map (row_text default_writer) (capacity_columns ∷ map capacity_row rooms)

-- ---- As metrics in the text format of Prometheus

-- what is written within quotes of a byte: behind a backslash, if it is a quote or a backslash
abbrev pub label_byte : ℕ → List ℕ
label_byte byte = if (byte == 34) || (byte == 92) then 92 ∷ byte ∷ [] else byte ∷ []

-- the value of a label
abbrev pub label_text : List ℕ → List ℕ
label_text name = flat_map label_byte (shown_name name)

abbrev pub metric_name : Metric → List ℕ
metric_name metric.Hosts = codes "ac_flavor_hosts"
metric_name metric.AtLeast = codes "ac_flavor_at_least"
metric_name metric.AtMost = codes "ac_flavor_at_most"
metric_name metric.Wanted = codes "ac_flavor_wanted"
metric_name metric.ShortAt = codes "ac_flavor_short_at"

-- what it counts
abbrev pub metric_help : Metric → List ℕ
metric_help metric.Hosts = codes "Root providers at which the flavor fits."
metric_help metric.AtLeast = codes "Placements by first fit."
metric_help metric.AtMost = codes "Placements in any order at most."
metric_help metric.Wanted = codes "Placements that are wanted."
metric_help metric.ShortAt = codes "Root providers that are short of the label short_of."

unfoldable pub metric_head : List ℕ → List ℕ → List ℕ
metric_head name help = said (codes "# HELP " ∷ name ∷ codes " " ∷ help ∷ codes "\n# TYPE " ∷ name ∷ codes " gauge\n" ∷ [])

-- the line of a number, behind the values of its labels
unfoldable pub sample : List ℕ → List ℕ → ℕ → List ℕ
sample metric labels count = said (metric ∷ codes "{flavor=\"" ∷ labels ∷ codes "\"} " ∷ decimal count ∷ newline ∷ [])

-- the values of two labels: of the flavor, and of what it is short of
unfoldable pub two_labels : List ℕ → List ℕ → List ℕ
two_labels flavor short = said (flavor ∷ codes "\",short_of=\"" ∷ short ∷ [])

-- the line of a flavor that is short of something, else nothing
abbrev pub short_line : List ℕ → Option (List ℕ × ℕ) → List ℕ
short_line flavor None = []
short_line flavor (Some short) = sample (metric_name metric.ShortAt) (two_labels flavor (label_text short.0)) short.1

abbrev pub metric_line : Metric → Room → List ℕ
metric_line metric.Hosts room = sample (metric_name metric.Hosts) (label_text room.name) room.hosts
metric_line metric.AtLeast room = sample (metric_name metric.AtLeast) (label_text room.name) room.at_least
metric_line metric.AtMost room = sample (metric_name metric.AtMost) (label_text room.name) room.at_most
metric_line metric.Wanted room = sample (metric_name metric.Wanted) (label_text room.name) room.wanted
metric_line metric.ShortAt room = short_line (label_text room.name) room.short

-- the head of a metric, and its lines
abbrev pub metric_text : List Room → Metric → List ℕ
metric_text rooms m = metric_head (metric_name m) (metric_help m) ++ flat_map (metric_line m) rooms

abbrev pub metrics : List Metric
metrics = metric.Hosts ∷ metric.AtLeast ∷ metric.AtMost ∷ metric.Wanted ∷ metric.ShortAt ∷ []

unfoldable pub metrics_text : List Room → List ℕ
metrics_text rooms = flat_map (metric_text rooms) metrics

-- ---- The text

-- rows, or metrics
abbrev pub rooms_text : Bool → List Room → List ℕ
rooms_text false rooms = capacity_text rooms
rooms_text true rooms = metrics_text rooms
