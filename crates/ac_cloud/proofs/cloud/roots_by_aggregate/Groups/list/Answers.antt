use Rattle.ac_cloud.proofs.Common.{ℕ, arith}
use Rattle.std.proofs.lemmas.Grind.{common_steps}
use Rattle.ac_cloud.proofs.cloud.roots_by_aggregate.Groups.list.Goals as goal

pub returns : goal.returns
returns c = λ (r : ℕ). grind (arith, common_steps, c.loop-aggregate.invariant r)
