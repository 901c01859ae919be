use Rattle.std.proofs.Common.{◌≡◌, ◌==◌, ℕ, ◌++◌, List, true, false, get_or, take, refl, sym, subst, append-nil, arith}
use Rattle.std.proofs.lemmas.List.{take_all}
use Rattle.std.proofs.lemmas.Bool.Decides.{nat_tests}
use Rattle.ac_find.specs.declared.lacks.Lack.{Lack}
use Rattle.ac_find.specs.declared.lacks.Lack.TheVariants.{RootTraits}
use Rattle.ac_query.specs.Shown.Queries.{asked_of}
use Rattle.ac_report.specs.Findings.HostSums.{rows_of_count, sum_row}
use Rattle.ac_base.specs.Writing.Rows.{HasRows}
use Rattle.ac_report.proofs.FoundTexts.RowsWritten.{behind, item_row, item_without}
use Rattle.ac_report.proofs.findings.host_sums.write_of_count.Goals as goal
use Rattle.ac_report.proofs.findings.host_sums.write_of_count.Goals.{then-sum-count+in_ok-write_sum, else-sum-count}

pub loop-sum-init : goal.loop-sum-init
loop-sum-init c = λ before h. subst (HasRows c.args.rows.now) (sym (append-nil before)) h

pub loop-sum-preserved : goal.loop-sum-preserved
loop-sum-preserved c =
    let asked = asked_of c.args.query.now in
    let sums = c.args.sums.now in
    let count = c.args.count in
    let test = λ (sum : Lack × ℕ). sum.1 == count in
    let i = c.loop-sum.sum-index in
    let sum = get_or sums i (RootTraits, 0) in
    let low = c.loop-sum-test.true in
    elim c.if-sum-count.branch [
      | then-sum-count+in_ok-write_sum w ↦ λ before h.
          let here : test sum ≡ true = let same = w.if-sum-count.true in grind (arith, nat_tests, same) in
          rw (w.rows-is, sym (behind before (rows_of_count asked (take i sums) count) (sum_row asked sum) _ (item_row (sum_row asked) test sums i (RootTraits, 0) sum low refl here)))
          (w.in_ok-write_sum.ensures _ (c.loop-sum.invariant before h))
      | else-sum-count w ↦ λ before h.
          let away : test sum ≡ false = let other = w.if-sum-count.false in grind (arith, nat_tests, other) in
          rw (w.rows-is, item_without (sum_row asked) test sums i (RootTraits, 0) sum low refl away) (c.loop-sum.invariant before h)
    ]

pub returns : goal.returns
returns c = λ before h.
    subst (λ (sums : List (Lack × ℕ)). HasRows c.loop-sum.rows (before ++ rows_of_count (asked_of c.args.query.now) sums c.args.count))
    (take_all c.loop-sum.sum-index c.args.sums.now c.loop-sum-test.false) (c.loop-sum.invariant before h)
