use Rattle.std.proofs.Common.{◌-◌, length, map}
use Rattle.std.specs.List.{flat_map, range_with_len}
use Rattle.ac_query.specs.Shown.Groups.{need_entry}
use Rattle.ac_find.specs.Shown.Explained.{slot_shown}
use Rattle.ac_report.specs.Findings.Explanation.{class_text, classes_text}
use Rattle.ac_report.proofs.FoundTexts.Begun.{IsBegun}
use Rattle.ac_report.proofs.findings.explanation.push_classes.Given as goal

abbrev pub invariant-loop-k : goal.invariant-loop-k
invariant-loop-k g l =
    let needs = map need_entry l.needs in
    IsBegun g.W.Sink.taken g.W.Sink.failures l.fn.out l.out
    (classes_text needs (slot_shown l.told)) (flat_map (class_text needs (slot_shown l.told)) (range_with_len l.k (length needs - l.k)))
