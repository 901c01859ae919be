use Rattle.std.proofs.Common.{◌≡◌, take}
use Rattle.std.specs.List.{filter, flat_map}
use Rattle.ac_query.specs.Shown.Queries.{asked_of}
use Rattle.ac_cloud.specs.Cloud.CloudWorld.{providers_of}
use Rattle.ac_report.specs.Findings.Explanation.Differing.{differs_line, may_show}
use Rattle.ac_report.proofs.findings.explanation.differences.differences_text.Given as goal

abbrev pub invariant-loop-difference : goal.invariant-loop-difference
invariant-loop-difference l =
    l.text.items ≡ flat_map differs_line (filter (may_show (providers_of l.cloud) (asked_of l.query) l.found) (take l.difference-index l.difference-items))
