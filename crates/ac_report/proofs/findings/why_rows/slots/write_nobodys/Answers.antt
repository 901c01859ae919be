use Rattle.std.proofs.Common.{◌≡◌, ◌∙◌, ◌<◌, ℕ, ◌++◌, List, true, false, get_or, length, map, not, take, ap, sym, subst, append-nil, arith}
use Rattle.std.proofs.lemmas.List.{get_or-map, length-map, take_all}
use Rattle.ac_cloud.specs.Cloud.CloudWorld.{providers_of}
use Rattle.ac_query.specs.Shown.Groups.{need_entry}
use Rattle.ac_find.specs.Missing.{somebody_there_has_class}
use Rattle.ac_report.specs.Findings.WhyRows.{nobody_row, nobody_rows}
use Rattle.ac_report.specs.Findings.WhyRows.Shown.{front_shown}
use Rattle.ac_base.specs.Writing.Rows.{HasRows}
use Rattle.ac_report.proofs.FoundTexts.RowsWritten.{behind, item_row, item_without}
use Rattle.ac_report.proofs.findings.why_rows.slots.write_nobodys.Goals as goal
use Rattle.ac_report.proofs.findings.why_rows.slots.write_nobodys.Goals.{then-not-somebody_there_has_class+in_ok-write_nobody, else-not-somebody_there_has_class}

pub loop-need-init : goal.loop-need-init
loop-need-init c = λ before h. subst (HasRows c.args.rows.now) (sym (append-nil before)) h

pub loop-need-preserved : goal.loop-need-preserved
loop-need-preserved c =
    let all = providers_of c.args.cloud.now in
    let row = λ (need : List ℕ × ℕ). nobody_row (front_shown c.args.front) need.0 in
    let test = λ (need : List ℕ × ℕ). not (somebody_there_has_class all c.args.root need.0) in
    let needs = map need_entry c.args.needs.now in
    let i = c.loop-need.need-index in
    let need = need_entry c.need-item.result in
    let low : i < length needs = omega (arith, c.loop-need-test.true, length-map c.args.needs.now need_entry) in
    let is : get_or needs i need ≡ need = get_or-map need_entry c.args.needs.now i c.need-item.result need c.loop-need-test.true ∙ ap need_entry (sym c.need-item.is) in
    elim c.if-not-somebody_there_has_class.branch [
      | then-not-somebody_there_has_class+in_ok-write_nobody w ↦ λ before h.
          let here : test need ≡ true = ap not (sym c.somebody_there_has_class.ensures ∙ w.if-not-somebody_there_has_class.true) in
          rw (w.rows-is, sym (behind before (nobody_rows all c.args.root (front_shown c.args.front) (take i needs)) (row need) _ (item_row row test needs i need need low is here)))
          (w.in_ok-write_nobody.ensures _ (c.loop-need.invariant before h))
      | else-not-somebody_there_has_class w ↦ λ before h.
          let away : test need ≡ false = ap not (sym c.somebody_there_has_class.ensures ∙ w.if-not-somebody_there_has_class.false) in
          rw (w.rows-is, item_without row test needs i need need low is away) (c.loop-need.invariant before h)
    ]

pub returns : goal.returns
returns c =
    let needs = map need_entry c.args.needs.now in
    λ before h.
    subst (λ (ns : List (List ℕ × ℕ)). HasRows c.loop-need.rows (before ++ nobody_rows (providers_of c.args.cloud.now) c.args.root (front_shown c.args.front) ns))
    (take_all c.loop-need.need-index needs (omega (arith, c.loop-need-test.false, length-map c.args.needs.now need_entry))) (c.loop-need.invariant before h)
