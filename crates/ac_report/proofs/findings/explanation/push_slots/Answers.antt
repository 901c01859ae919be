use Rattle.std.proofs.Common.{◌∙◌, ◌+◌, ℕ, ap, length}
use Rattle.ac_query.specs.Asked.{slots_of}
use Rattle.ac_query.specs.Shown.Queries.{asked_of}
use Rattle.ac_rules.specs.Placed.{slot_at}
use Rattle.ac_cloud.specs.Cloud.CloudWorld.{providers_of}
use Rattle.ac_find.specs.Explained.{slot_told}
use Rattle.ac_find.specs.Shown.Explained.{slot_shown}
use Rattle.ac_report.specs.Findings.Explanation.{slot_line}
use Rattle.ac_report.proofs.FoundTexts.SlotsWritten.{place_stopped, place_written, told_at, told_low}
use Rattle.ac_report.proofs.findings.explanation.push_slots.Goals as goal

pub push_slot-requires : goal.push_slot-requires
push_slot-requires g c = told_low (providers_of c.args.cloud.now) (asked_of c.args.query.now) c.args.slots.now c.loop-s.s c.index-slots-s.result c.requires c.loop-s-test.true

pub returns-in_err-push_slot : goal.returns-in_err-push_slot
returns-in_err-push_slot g c =
    let all = providers_of c.args.cloud.now in
    let asked = asked_of c.args.query.now in
    let s = c.loop-s.s in
    let low = told_low all asked c.args.slots.now s c.index-slots-s.result c.requires c.loop-s-test.true in
    let is = ap slot_shown c.index-slots-s.is ∙ told_at all asked c.args.slots.now s c.index-slots-s.result c.requires c.loop-s-test.true in
    place_stopped (λ (s : ℕ). slot_line all (s + 1) (slot_at asked s) (slot_told all (slot_at asked s))) s (length (slots_of asked)) low
    (ap (slot_line all (s + 1) (slot_at asked s)) is) c.loop-s.invariant _ c.in_err-push_slot.ensures c.from_residual.ensures.1

pub loop-s-preserved : goal.loop-s-preserved
loop-s-preserved g c =
    let all = providers_of c.args.cloud.now in
    let asked = asked_of c.args.query.now in
    let s = c.loop-s.s in
    let low = told_low all asked c.args.slots.now s c.index-slots-s.result c.requires c.loop-s-test.true in
    let is = ap slot_shown c.index-slots-s.is ∙ told_at all asked c.args.slots.now s c.index-slots-s.result c.requires c.loop-s-test.true in
    place_written (λ (s : ℕ). slot_line all (s + 1) (slot_at asked s) (slot_told all (slot_at asked s))) s (length (slots_of asked)) low
    (ap (slot_line all (s + 1) (slot_at asked s)) is) c.loop-s.invariant c.in_ok-push_slot.ensures
