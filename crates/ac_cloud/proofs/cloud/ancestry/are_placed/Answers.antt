use Rattle.ac_cloud.proofs.Common.{IsPlaced}
use Rattle.ac_base.proofs.Small.{one_more}
use Rattle.ac_cloud.proofs.cloud.ancestry.are_placed.Goals as goal

pub loop-place-preserved : goal.loop-place-preserved
loop-place-preserved c =
    let draft = c.args.draft.now in
    one_more (IsPlaced c.args.parents.now draft.entered.items draft.left.items draft.order.items draft.before.items) c.loop-place.place c.loop-place.invariant (c.is_placed.ensures c.if-not-is_placed.false)
