use Rattle.ac_cloud.proofs.Common.{◌≡◌, length}
use Rattle.ac_cloud.proofs.cloud.ancestry.find_family.Given as goal

abbrev pub invariant-loop-place : goal.invariant-loop-place
invariant-loop-place l = (length l.before.items ≡ l.place) × (length l.last.items ≡ length l.parents)
