use Rattle.std.proofs.Common.{arith, length, map, refl}
use Rattle.std.proofs.lemmas.List.{length-map}
use Rattle.ac_query.specs.Shown.Groups.{need_entry}
use Rattle.ac_find.specs.Shown.Explained.{slot_shown}
use Rattle.ac_report.specs.Findings.Explanation.{class_text}
use Rattle.ac_report.proofs.FoundTexts.SlotsWritten.{place_stopped, place_written}
use Rattle.ac_report.proofs.findings.explanation.push_classes.Goals as goal

pub returns-in_err-push_class : goal.returns-in_err-push_class
returns-in_err-push_class g c =
    let needs = map need_entry c.args.needs.now in
    place_stopped (class_text needs (slot_shown c.args.told.now)) c.loop-k.k (length needs)
    (omega (arith, c.loop-k-test.true, length-map c.args.needs.now need_entry)) refl c.loop-k.invariant _ c.in_err-push_class.ensures c.from_residual.ensures.1

pub loop-k-preserved : goal.loop-k-preserved
loop-k-preserved g c =
    let needs = map need_entry c.args.needs.now in
    place_written (class_text needs (slot_shown c.args.told.now)) c.loop-k.k (length needs)
    (omega (arith, c.loop-k-test.true, length-map c.args.needs.now need_entry)) refl c.loop-k.invariant c.in_ok-push_class.ensures
