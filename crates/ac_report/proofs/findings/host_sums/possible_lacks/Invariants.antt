use Rattle.std.proofs.Common.{◌≡◌}
use Rattle.ac_report.specs.Findings.HostSums.{possible_lacks}
use Rattle.ac_report.proofs.findings.host_sums.possible_lacks.Given as goal

abbrev pub invariant-loop-s : goal.invariant-loop-s
invariant-loop-s l = l.kinds.items ≡ possible_lacks l.s
