use Rattle.std.proofs.Common.{◌∙◌, ◌<◌, ◌-◌, ◌^◌, None, length, slice_index_or, false, ap, arith}
use Rattle.std.proofs.lemmas.List.{get_or_read}
use Rattle.ac_fill.specs.Found.{times_found, times_in}
use Rattle.ac_fill.proofs.AtRoots.{sum_next, sum_past}
use Rattle.ac_fill.proofs.bound.sum_at.Goals as goal
use Rattle.ac_fill.proofs.bound.sum_at.Goals.{then-fits, else-fits}

pub loop-r-preserved : goal.loop-r-preserved
loop-r-preserved c =
    let roots = c.args.roots.now in
    let r = c.loop-r.r in
    elim c.if-fits.branch [
      | then-fits w ↦
          let here : r < length roots = omega (arith, c.loop-r-test.true, c.requires) in
          let times = w.times_found.ensures ∙ ap times_found (get_or_read roots r w.index-roots-r.result here w.index-roots-r.is None) in
          sum_next (times_in roots) (λ r. slice_index_or c.args.fits.now r false) r c.loop-r.sum c.if-fits.sum (2 ^ 128 - 1) w.if-fits.true c.loop-r.invariant (omega (arith, w.sum-is, w.saturating_add-sum.ensures, times))
      | else-fits w ↦ omega (arith, w.sum-is, c.loop-r.invariant, sum_past (times_in roots) (λ r. slice_index_or c.args.fits.now r false) r w.if-fits.false)
    ]
