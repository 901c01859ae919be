use Rattle.std.proofs.Common.{ℕ, ◌-◌, ◌++◌, List}
use Rattle.std.specs.List.{flat_map, range_with_len}
use Rattle.ac_query.specs.Shown.Queries.{asked_of}
use Rattle.ac_report.specs.Findings.HostSums.{rows_of_count}
use Rattle.ac_base.specs.Writing.Rows.{HasRows}
use Rattle.ac_report.proofs.findings.host_sums.write_falling.Given as goal

abbrev pub invariant-loop-i : goal.invariant-loop-i
invariant-loop-i l =
    (before : List (List (List ℕ))) → HasRows l.fn.rows before
    → HasRows l.rows (before ++ flat_map (λ i. rows_of_count (asked_of l.query) l.sums (l.most - i)) (range_with_len 0 l.i))
