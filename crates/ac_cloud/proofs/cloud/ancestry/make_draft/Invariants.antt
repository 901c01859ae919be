use Rattle.ac_cloud.proofs.Common.{◌≡◌, length}
use Rattle.ac_cloud.proofs.cloud.ancestry.make_draft.Given as goal

abbrev pub invariant-loop-step : goal.invariant-loop-step
invariant-loop-step l = (length l.entered.items ≡ length l.parents) × (length l.left.items ≡ length l.parents) × (length l.order.items ≡ length l.parents)
