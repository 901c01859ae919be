use Rattle.std.proofs.Common.{ℕ, ◌++◌, List}
use Rattle.std.specs.List.{flat_map, range_with_len}
use Rattle.ac_cloud.specs.Cloud.CloudWorld.{providers_of}
use Rattle.ac_query.specs.Shown.Queries.{asked_of}
use Rattle.ac_report.specs.Findings.WhyRows.{slot_rows}
use Rattle.ac_base.specs.Writing.Rows.{HasRows}
use Rattle.ac_report.proofs.findings.why_rows.slots.write_slots.Given as goal

abbrev pub invariant-loop-s : goal.invariant-loop-s
invariant-loop-s l =
    (before : List (List (List ℕ))) → HasRows l.fn.rows before
    → HasRows l.rows (before ++ flat_map (λ s. slot_rows (providers_of l.cloud) (asked_of l.query) l.root s) (range_with_len 0 l.s))
