use Rattle.std.proofs.Common.{◌≡◌, ℕ, ◌-◌, ◌++◌, sym, subst, append-nil, arith}
use Rattle.std.specs.List.{flat_map, range_with_len}
use Rattle.ac_query.specs.Shown.Queries.{asked_of}
use Rattle.ac_report.specs.Findings.HostSums.{rows_of_count}
use Rattle.ac_base.specs.Writing.Rows.{HasRows}
use Rattle.ac_report.proofs.FoundTexts.RowsWritten.{place_more}
use Rattle.ac_report.proofs.findings.host_sums.write_falling.Goals as goal

pub loop-i-init : goal.loop-i-init
loop-i-init c = λ before h. subst (HasRows c.args.rows.now) (sym (append-nil before)) h

pub loop-i-preserved : goal.loop-i-preserved
loop-i-preserved c = λ before h.
    subst (HasRows c.write_of_count.new.rows) (place_more (λ i. rows_of_count (asked_of c.args.query.now) c.args.sums.now (c.args.most - i)) before c.loop-i.i)
    (c.in_ok-write_of_count.ensures _ (c.loop-i.invariant before h))

pub returns : goal.returns
returns c =
    let end : c.loop-i.i ≡ c.args.most = omega (arith, c.loop-i.auto.i-end, c.loop-i-test.false) in
    λ before h.
    subst (λ (n : ℕ). HasRows c.loop-i.rows (before ++ flat_map (λ i. rows_of_count (asked_of c.args.query.now) c.args.sums.now (c.args.most - i)) (range_with_len 0 n))) end (c.loop-i.invariant before h)
