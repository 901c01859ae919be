use Rattle.ac_cloud.proofs.Common.{◌<◌, ℕ, IsPlaced}
use Rattle.ac_cloud.proofs.cloud.ancestry.are_placed.Given as goal

abbrev pub invariant-loop-place : goal.invariant-loop-place
invariant-loop-place l = (b : ℕ) → b < l.place → IsPlaced l.parents l.draft.entered.items l.draft.left.items l.draft.order.items l.draft.before.items b
