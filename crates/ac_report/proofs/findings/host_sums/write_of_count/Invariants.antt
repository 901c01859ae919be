use Rattle.std.proofs.Common.{ℕ, ◌++◌, List, take}
use Rattle.ac_query.specs.Shown.Queries.{asked_of}
use Rattle.ac_report.specs.Findings.HostSums.{rows_of_count}
use Rattle.ac_base.specs.Writing.Rows.{HasRows}
use Rattle.ac_report.proofs.findings.host_sums.write_of_count.Given as goal

abbrev pub invariant-loop-sum : goal.invariant-loop-sum
invariant-loop-sum l =
    (before : List (List (List ℕ))) → HasRows l.fn.rows before → HasRows l.rows (before ++ rows_of_count (asked_of l.query) (take l.sum-index l.sums) l.count)
