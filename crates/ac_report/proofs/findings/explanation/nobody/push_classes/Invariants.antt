use Rattle.std.proofs.Common.{ℕ, List, drop, map}
use Rattle.std.specs.List.{flat_map}
use Rattle.ac_cloud.specs.Cloud.CloudWorld.{providers_of}
use Rattle.ac_query.specs.Shown.Groups.{need_entry}
use Rattle.ac_report.specs.Findings.Explanation.Nobody.{class_missed}
use Rattle.ac_report.proofs.FoundTexts.Begun.{IsBegun}
use Rattle.ac_report.proofs.findings.explanation.nobody.push_classes.Given as goal

abbrev pub invariant-loop-need : goal.invariant-loop-need
invariant-loop-need g l =
    let missed = λ (need : List ℕ × ℕ). class_missed (providers_of l.cloud) need.0 in
    IsBegun g.W.Sink.taken g.W.Sink.failures l.fn.out l.out
    (flat_map missed (map need_entry l.needs)) (flat_map missed (map need_entry (drop l.need-index l.needs)))
