use Rattle.std.proofs.Common.{ℕ, List, drop, map}
use Rattle.std.specs.List.{flat_map}
use Rattle.ac_cloud.specs.Cloud.CloudWorld.{providers_of}
use Rattle.ac_query.specs.Shown.Groups.{any_of_shown}
use Rattle.ac_report.specs.Findings.Explanation.Nobody.{list_missed}
use Rattle.ac_report.proofs.FoundTexts.Begun.{IsBegun}
use Rattle.ac_report.proofs.findings.explanation.nobody.push_lists.Given as goal

abbrev pub invariant-loop-list : goal.invariant-loop-list
invariant-loop-list g l =
    let missed = λ (names : List (List ℕ)). list_missed (providers_of l.cloud) names in
    IsBegun g.W.Sink.taken g.W.Sink.failures l.fn.out l.out
    (flat_map missed (map any_of_shown l.lists)) (flat_map missed (map any_of_shown (drop l.list-index l.lists)))
