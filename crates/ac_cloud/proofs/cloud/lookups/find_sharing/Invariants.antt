use Rattle.ac_cloud.proofs.Common.{◌≡◌, map, take, shares_by, lists_of}
use Rattle.ac_cloud.proofs.cloud.lookups.find_sharing.Given as goal

abbrev pub invariant-loop-place : goal.invariant-loop-place
invariant-loop-place l = l.sharing.items ≡ map shares_by (take l.place (lists_of l.traits))
