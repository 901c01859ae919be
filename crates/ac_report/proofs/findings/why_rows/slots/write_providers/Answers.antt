use Rattle.std.proofs.Common.{◌≡◌, ◌∙◌, ℕ, ◌+◌, ◌&&◌, ◌++◌, true, false, length, map, ap, sym, subst, append-nil, arith}
use Rattle.std.specs.List.{filter, range_with_len}
use Rattle.ac_cloud.specs.World.{is_available_at, provider_at}
use Rattle.ac_cloud.specs.Cloud.CloudWorld.{providers_of}
use Rattle.ac_query.specs.Shown.Queries.{asked_of}
use Rattle.ac_rules.specs.Placed.{placed_at, slot_at}
use Rattle.ac_report.specs.Findings.WhyRows.{has_a_class, placed_row}
use Rattle.ac_base.specs.Writing.Rows.{HasRows}
use Rattle.ac_report.proofs.FoundTexts.HostsWritten.{row_more, row_same}
use Rattle.ac_report.proofs.FoundTexts.RowsWritten.{behind, hosts_that}
use Rattle.ac_report.proofs.findings.why_rows.slots.write_providers.Goals as goal
use Rattle.ac_report.proofs.findings.why_rows.slots.write_providers.Goals.{then-is_looked_at+in_ok-write_placed, else-is_looked_at}

pub loop-ix-init : goal.loop-ix-init
loop-ix-init c = λ before h. subst (HasRows c.args.rows.now) (sym (append-nil before)) h

pub loop-ix-preserved : goal.loop-ix-preserved
loop-ix-preserved c =
    let all = providers_of c.args.cloud.now in
    let asked = asked_of c.args.query.now in
    let s = c.args.s in
    let ix = c.loop-ix.ix in
    let row = λ (p : ℕ). placed_row all (s + 1) (placed_at asked s p) in
    let looked_at = λ (p : ℕ). is_available_at all p c.args.root && has_a_class (provider_at all p) (slot_at asked s).needs in
    let rows = map row (filter looked_at (range_with_len 0 ix)) in
    elim c.if-is_looked_at.branch [
      | then-is_looked_at+in_ok-write_placed w ↦ λ before h.
          let here : looked_at ix ≡ true = sym c.is_looked_at.ensures ∙ w.if-is_looked_at.true in
          rw (w.rows-is, sym (behind before rows (row ix) _ (row_more row looked_at ix here))) (w.in_ok-write_placed.ensures _ (c.loop-ix.invariant before h))
      | else-is_looked_at w ↦ λ before h.
          let away : looked_at ix ≡ false = sym c.is_looked_at.ensures ∙ w.if-is_looked_at.false in
          rw (w.rows-is, row_same row looked_at ix away) (c.loop-ix.invariant before h)
    ]

pub returns : goal.returns
returns c =
    let all = providers_of c.args.cloud.now in
    let asked = asked_of c.args.query.now in
    let s = c.args.s in
    let row = λ (p : ℕ). placed_row all (s + 1) (placed_at asked s p) in
    let test = λ (p : ℕ). has_a_class (provider_at all p) (slot_at asked s).needs in
    let end : c.loop-ix.ix ≡ length all = omega (arith, c.loop-ix.auto.ix-end, c.loop-ix-test.false, c.len-ix-end.ensures) in
    λ before h.
    subst (λ rows. HasRows c.loop-ix.rows (before ++ map row rows))
    (ap (λ (n : ℕ). filter (λ p. is_available_at all p c.args.root && test p) (range_with_len 0 n)) end ∙ sym (hosts_that all c.args.root test))
    (c.loop-ix.invariant before h)
