use Rattle.std.proofs.Common.{ℕ, ◌++◌, List, map, take}
use Rattle.ac_cloud.specs.Cloud.CloudWorld.{providers_of}
use Rattle.ac_query.specs.Shown.Groups.{need_entry}
use Rattle.ac_report.specs.Findings.WhyRows.{nobody_rows}
use Rattle.ac_report.specs.Findings.WhyRows.Shown.{front_shown}
use Rattle.ac_base.specs.Writing.Rows.{HasRows}
use Rattle.ac_report.proofs.findings.why_rows.slots.write_nobodys.Given as goal

abbrev pub invariant-loop-need : goal.invariant-loop-need
invariant-loop-need l =
    (before : List (List (List ℕ))) → HasRows l.fn.rows before
    → HasRows l.rows (before ++ nobody_rows (providers_of l.cloud) l.root (front_shown l.front) (take l.need-index (map need_entry l.needs)))
