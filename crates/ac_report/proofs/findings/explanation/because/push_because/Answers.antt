use Rattle.std.proofs.Common.{◌≡◌, ◌∙◌, ℕ, ◌+◌, Option, ap, ap₂, length, map, sym}
use Rattle.std.specs.Prelude.{Some}
use Rattle.ac_query.specs.Asked.{slots_of}
use Rattle.ac_query.specs.Shown.Queries.{asked_of}
use Rattle.ac_cloud.specs.Cloud.CloudWorld.{providers_of}
use Rattle.ac_find.specs.Explained.{SlotTold, TreeCounts, slot_told}
use Rattle.ac_rules.specs.Placed.{slot_at}
use Rattle.ac_report.specs.Findings.Explanation.{first_empty, reason, reason_by, slot_reason, trees_reason}
use Rattle.ac_report.specs.Findings.Explanation.Shown.{found_shown}
use Rattle.ac_report.proofs.FoundTexts.Begun.{pushed_told}
use Rattle.ac_report.proofs.FoundTexts.SlotsWritten.{told_at, told_low}
use Rattle.ac_report.proofs.findings.explanation.because.push_because.Goals as goal

pub push_slot_reason-requires : goal.push_slot_reason-requires
push_slot_reason-requires g c =
    let it = c.args.told.now in
    told_low (providers_of it.cloud.now) (asked_of it.query.now) it.slots.now c.in-Some.s c.index-told-s.result it.slots_told (rw c.in-Some.is at c.first_empty.ensures.inside)

pub returns-in-Some : goal.returns-in-Some
unfolding reason
returns-in-Some g c =
    let it = c.args.told.now in
    let all = providers_of it.cloud.now in
    let asked = asked_of it.query.now in
    let without = found_shown c.args.without.now in
    let s = c.in-Some.s in
    let inside = rw c.in-Some.is at c.first_empty.ensures.inside in
    let told = told_at all asked it.slots.now s c.index-told-s.result it.slots_told inside in
    let first : Some s ≡ first_empty (map (slot_told all) (slots_of asked)) = sym c.in-Some.is ∙ (c.first_empty.ensures.first ∙ ap first_empty it.slots_told) in
    pushed_told (ap (λ (t : SlotTold). slot_reason (length all) (s + 1) (slot_at asked s) t.counts) told ∙ ap (reason_by all asked without) first) c.push_slot_reason.ensures

pub returns-in-None : goal.returns-in-None
unfolding reason
returns-in-None g c =
    let it = c.args.told.now in
    let all = providers_of it.cloud.now in
    let asked = asked_of it.query.now in
    let without = found_shown c.args.without.now in
    let first = sym c.in-None.is ∙ (c.first_empty.ensures.first ∙ ap first_empty it.slots_told) in
    pushed_told (ap₂ (λ (t : TreeCounts) (apart : Option (ℕ × ℕ)). trees_reason asked t apart without) it.trees_told it.apart_told ∙ ap (reason_by all asked without) first) c.push_trees_reason.ensures
