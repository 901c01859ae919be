use Rattle.std.proofs.Common.{◌≡◌, ◌+◌, ◌≤◌, Result, fold, length, map, max, min, string_bytes}
use Rattle.std.specs.BTreeSet.{insert_key}
use Rattle.std.specs.List.{All, filter}
use Rattle.ac_base.specs.Texts.{text_cmp}
use Rattle.ac_cloud.specs.Cloud.CloudWorld.{providers_of}
use Rattle.ac_query.specs.Shown.Queries.{asked_of}
use Rattle.ac_report.specs.declared.fault.PageFault.{PageFault}
use Rattle.ac_report.specs.Outcomes.{WritesEach}
use Rattle.ac_report.specs.Pages.{IsAssignment}
use Rattle.ac_report.specs.Texts.{request_text}
use Rattle.ac_run.specs.declared.outputs.compared.told.Tally.{Tally}
use Rattle.ac_run.specs.Compared.{count_known, is_among, lines_here, most_told, status_of}
use Rattle.ac_run.proofs.outputs.compared.told.write_here.Given as goal

-- what ends it well from here does all
abbrev pub invariant-lists : goal.invariant-lists
invariant-lists g l =
    let left = g.S.Source.left in
    let may_stop = g.S.Source.may_stop in
    let taken = g.W.Sink.taken in
    let failures = g.W.Sink.failures in
    let all = providers_of l.cloud in
    let asked = asked_of l.query in
    let known = is_among (map (λ t. t.now) l.known.keys) in
    record {
      assigned : All (IsAssignment all asked) (left l.source);
      small : l.same ≤ most_told;
      same : min (l.same + count_known known all asked (left l.source)) most_told ≡ min (count_known known all asked (left l.fn.source)) most_told;
      status : max l.status (status_of (lines_here l.whole known all asked (left l.source))) ≡ status_of (lines_here l.whole known all asked (left l.fn.source));
      met : fold (insert_key text_cmp) (map string_bytes l.met.keys) (filter known (map (request_text all asked) (left l.source)))
          ≡ fold (insert_key text_cmp) (map string_bytes l.fn.met.keys) (filter known (map (request_text all asked) (left l.fn.source)));
      writes : (r : Result Tally PageFault) (new : g.row.W.Denot) → WritesEach taken failures (may_stop l.source) l.out new r (λ t. t) (lines_here l.whole known all asked (left l.source))
          → WritesEach taken failures (may_stop l.fn.source) l.fn.out new r (λ t. t) (lines_here l.whole known all asked (left l.fn.source));
    }

abbrev pub decreases-lists : goal.decreases-lists
decreases-lists g l = length (g.S.Source.left l.source)
