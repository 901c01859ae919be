use Rattle.std.proofs.Common.{◌+◌, ◌-◌, length}
use Rattle.std.specs.List.{flat_map, range_with_len}
use Rattle.ac_query.specs.Asked.{slots_of}
use Rattle.ac_query.specs.Shown.Queries.{asked_of}
use Rattle.ac_rules.specs.Placed.{slot_at}
use Rattle.ac_cloud.specs.Cloud.CloudWorld.{providers_of}
use Rattle.ac_find.specs.Explained.{slot_told}
use Rattle.ac_report.specs.Findings.Explanation.{slot_line, slot_lines}
use Rattle.ac_report.proofs.FoundTexts.Begun.{IsBegun}
use Rattle.ac_report.proofs.findings.explanation.push_slots.Given as goal

abbrev pub invariant-loop-s : goal.invariant-loop-s
invariant-loop-s g l =
    let all = providers_of l.cloud in
    let asked = asked_of l.query in
    IsBegun g.W.Sink.taken g.W.Sink.failures l.fn.out l.out
    (slot_lines all asked)
    (flat_map (λ s. slot_line all (s + 1) (slot_at asked s) (slot_told all (slot_at asked s))) (range_with_len l.s (length (slots_of asked) - l.s)))
