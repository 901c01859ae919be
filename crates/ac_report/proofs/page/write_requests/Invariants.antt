use Rattle.std.proofs.Common.{◌≡◌, ◌<◌, ◌≤◌, ◌||◌, ℕ, List, Result, false, get_or, length}
use Rattle.std.specs.List.{All, list_any}
use Rattle.ac_query.specs.Shown.Queries.{asked_of}
use Rattle.ac_rules.specs.Pages.{cut}
use Rattle.ac_cloud.specs.Cloud.CloudWorld.{providers_of}
use Rattle.ac_cloud.specs.World.{id_at}
use Rattle.ac_report.specs.declared.fault.PageFault.{PageFault}
use Rattle.ac_report.specs.Marks.{requests}
use Rattle.ac_report.specs.Outcomes.{Reads, WritesEach}
use Rattle.ac_report.specs.Pages.{IsAssignment}
use Rattle.ac_report.specs.Texts.{meets_root}
use Rattle.ac_report.proofs.page.write_requests.Given as goal

-- what ends it well from here does all
abbrev pub invariant-lists : goal.invariant-lists
invariant-lists g l =
    let left = g.S.Source.left in
    let may_stop = g.S.Source.may_stop in
    let taken = g.W.Sink.taken in
    let failures = g.W.Sink.failures in
    let all = providers_of l.cloud in
    let asked = asked_of l.query in
    record {
      assigned : All (IsAssignment all asked) (left l.source);
      long : length l.marks ≡ length all;
      marked : (r : ℕ) → r < length all
          → list_any (meets_root all (id_at all r)) (cut asked.limit (left l.fn.source)) ≡ (get_or l.marks r false || list_any (meets_root all (id_at all r)) (cut l.wanted (left l.source)));
      small : l.count ≤ 4294967295;
      reads : (r : Result ℕ PageFault) (new : List (List ℕ)) → Reads l.wanted l.count r (left l.source) new → Reads asked.limit 0 r (left l.fn.source) new;
      writes : (r : Result ℕ PageFault) (new : g.row.W.Denot)
          → WritesEach taken failures (may_stop l.source) l.out new r (λ text. text) (requests all asked l.later (cut l.wanted (left l.source)))
          → WritesEach taken failures (may_stop l.fn.source) l.fn.out new r (λ text. text) (requests all asked false (cut asked.limit (left l.fn.source)));
    }

abbrev pub decreases-lists : goal.decreases-lists
decreases-lists g l = length (g.S.Source.left l.source)
