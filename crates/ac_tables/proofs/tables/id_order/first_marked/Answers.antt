use Rattle.ac_tables.proofs.Common.{◌≡◌, ◌∙◌, ◌+◌, ◌<◌, Option, ℕ, false, refl, sym, ap, subst, arith, length, get_or, get_or_default, TableRow, Named, IsLeastBelow}
use Rattle.ac_tables.proofs.Sorted.Least.{least_same, least_more}
use Rattle.ac_tables.proofs.tables.id_order.first_marked.Goals as goal
use Rattle.ac_tables.proofs.tables.id_order.first_marked.Goals.{then-marks-i, else-marks-i}

pub loop-i-preserved : goal.loop-i-preserved
loop-i-preserved c =
    let rows = c.args.rows.now in
    let i = c.loop-i.i in
    let marked = λ (k : ℕ) (d : TableRow ℕ Named). get_or c.args.marks.now k false in
    let number = λ (k : ℕ) (d : TableRow ℕ Named). (get_or c.args.rows.now k d).number in
    let inside : c.loop-i.i < length c.args.rows.now = omega (arith, c.loop-i-test.true) in
    record {
      least = elim c.if-marks-i.branch [
        | then-marks-i w ↦
            subst (λ (o : Option ℕ). IsLeastBelow marked number (c.loop-i.i + 1) o) (sym (w.first-is ∙ w.sooner-first.ensures))
            (least_more marked number i (i + 1) refl _ c.loop-i.first (λ d. w.if-marks-i.true) (λ d. ap (λ (r : TableRow ℕ Named). r.number) (get_or_default rows i d w.index-rows-i.result inside)) c.loop-i.invariant.least)
        | else-marks-i w ↦
            subst (λ (o : Option ℕ). IsLeastBelow marked number (c.loop-i.i + 1) o) (sym w.first-is)
            (least_same marked number i (i + 1) refl c.loop-i.first (λ d. w.if-marks-i.false) c.loop-i.invariant.least)
      ];
      within = omega arith;
    }

pub returns : goal.returns
returns c =
    let whole : c.loop-i.i ≡ length c.args.rows.now = omega arith in
    rw whole at c.loop-i.invariant.least
