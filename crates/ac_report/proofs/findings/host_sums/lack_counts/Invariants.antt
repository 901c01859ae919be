use Rattle.std.proofs.Common.{◌≡◌, ◌++◌, drop, map, nat_lt}
use Rattle.std.specs.List.{filter}
use Rattle.ac_query.specs.Shown.Queries.{asked_of}
use Rattle.ac_report.specs.Findings.HostSums.{lack_told}
use Rattle.ac_report.proofs.findings.host_sums.lack_counts.Given as goal

abbrev pub invariant-loop-kind : goal.invariant-loop-kind
invariant-loop-kind l =
    map (λ c. (c.0.items, c.1)) l.counts.items ++ map (lack_told (asked_of l.query)) (filter (λ sum. nat_lt 0 sum.1) (drop l.kind-index l.kind-items))
    ≡ map (lack_told (asked_of l.query)) (filter (λ sum. nat_lt 0 sum.1) l.kind-items)
