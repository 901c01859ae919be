use Rattle.std.proofs.Common.{ℕ, List, drop, map}
use Rattle.std.specs.List.{flat_map}
use Rattle.ac_cloud.specs.Cloud.CloudWorld.{providers_of}
use Rattle.ac_query.specs.Shown.Groups.{group_entry}
use Rattle.std.specs.Prelude.{Option}
use Rattle.ac_query.specs.Asked.{Group}
use Rattle.ac_report.specs.Findings.Explanation.Nobody.{group_missed}
use Rattle.ac_report.proofs.FoundTexts.Begun.{IsBegun}
use Rattle.ac_report.proofs.findings.explanation.nobody.push_groups.Given as goal

abbrev pub invariant-loop-group : goal.invariant-loop-group
invariant-loop-group g l =
    let missed = λ (g : Option (List ℕ) × Group). group_missed (providers_of l.cloud) g.1 in
    IsBegun g.W.Sink.taken g.W.Sink.failures l.fn.out l.out
    (flat_map missed (map group_entry l.groups)) (flat_map missed (map group_entry (drop l.group-index l.groups)))
