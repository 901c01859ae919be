use Rattle.std.proofs.Common.{is_some, ◌≤◌, ℕ, List, Result, length}
use Rattle.std.specs.List.{All}
use Rattle.ac_query.specs.Shown.Queries.{asked_of}
use Rattle.ac_rules.specs.Pages.{cut}
use Rattle.ac_cloud.specs.Cloud.CloudWorld.{providers_of}
use Rattle.ac_report.specs.declared.fault.PageFault.{PageFault}
use Rattle.ac_report.specs.Outcomes.{Reads, WritesEach}
use Rattle.ac_report.specs.Pages.{IsAssignment}
use Rattle.ac_report.specs.Called.{line_by}
use Rattle.ac_report.proofs.lines.write_tokens.Given as goal

-- what ends it well from here does all
abbrev pub invariant-lists : goal.invariant-lists
invariant-lists g l =
    let left = g.S.Source.left in
    let may_stop = g.S.Source.may_stop in
    let taken = g.W.Sink.taken in
    let failures = g.W.Sink.failures in
    let limit = (asked_of l.query).limit in
    record {
      assigned : All (IsAssignment (providers_of l.cloud) (asked_of l.query)) (left l.source);
      small : l.count ≤ 4294967295;
      reads : (r : Result ℕ PageFault) (new : List (List ℕ)) → Reads l.wanted l.count r (left l.source) new → Reads limit 0 r (left l.fn.source) new;
      writes : (r : Result ℕ PageFault) (new : g.row.W.Denot)
          → WritesEach taken failures (may_stop l.source) l.out new r (line_by (is_some l.names) (providers_of l.cloud)) (cut l.wanted (left l.source))
          → WritesEach taken failures (may_stop l.fn.source) l.fn.out new r (line_by (is_some l.names) (providers_of l.cloud)) (cut limit (left l.fn.source));
    }

abbrev pub decreases-lists : goal.decreases-lists
decreases-lists g l = length (g.S.Source.left l.source)
