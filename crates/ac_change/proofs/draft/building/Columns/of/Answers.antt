use Rattle.std.proofs.Common.{◌∙◌, ◌++◌, ◌∷◌, [], ap, append_assoc, sym}
use Rattle.std.specs.Vec.Iter.{into_iter_items}
use Rattle.ac_change.proofs.draft.building.Columns.of.Goals as goal

pub loop-held-preserved : goal.loop-held-preserved
loop-held-preserved c =
    let before = c.loop-held.invariant.0 in (
      before ++ c.in-Some.held ∷ [],
      append_assoc before (c.in-Some.held ∷ []) (into_iter_items c.next.new.self) ∙ ap (λ l. before ++ l) (sym c.in-Some.ensures.steps.0) ∙ c.loop-held.invariant.1,
      c.in_ok-columns-2.ensures before c.loop-held.invariant.2,
    )
