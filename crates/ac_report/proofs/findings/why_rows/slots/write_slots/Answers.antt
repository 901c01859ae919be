use Rattle.std.proofs.Common.{◌≡◌, ℕ, ◌++◌, length, sym, subst, append-nil, arith}
use Rattle.std.specs.List.{flat_map, range_with_len}
use Rattle.ac_cloud.specs.Cloud.CloudWorld.{providers_of}
use Rattle.ac_query.specs.Asked.{slots_of}
use Rattle.ac_query.specs.Shown.Queries.{asked_of}
use Rattle.ac_report.specs.Findings.WhyRows.{slot_rows}
use Rattle.ac_base.specs.Writing.Rows.{HasRows}
use Rattle.ac_report.proofs.FoundTexts.RowsWritten.{place_more}
use Rattle.ac_report.proofs.findings.why_rows.slots.write_slots.Goals as goal

pub loop-s-init : goal.loop-s-init
loop-s-init c = λ before h. subst (HasRows c.args.rows.now) (sym (append-nil before)) h

pub loop-s-preserved : goal.loop-s-preserved
loop-s-preserved c = λ before h.
    subst (HasRows c.write_slot.new.rows) (place_more (λ s. slot_rows (providers_of c.args.cloud.now) (asked_of c.args.query.now) c.args.root s) before c.loop-s.s)
    (c.in_ok-write_slot.ensures _ (c.loop-s.invariant before h))

pub returns : goal.returns
returns c =
    let all = providers_of c.args.cloud.now in
    let asked = asked_of c.args.query.now in
    let end : c.loop-s.s ≡ length (slots_of asked) = omega (arith, c.loop-s.auto.s-end, c.loop-s-test.false, c.count_slots-s-end.ensures.count) in
    λ before h.
    subst (λ (n : ℕ). HasRows c.loop-s.rows (before ++ flat_map (λ s. slot_rows all asked c.args.root s) (range_with_len 0 n))) end (c.loop-s.invariant before h)
