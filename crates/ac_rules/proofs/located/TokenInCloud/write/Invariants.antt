use Rattle.std.proofs.Common.{◌≡◌, take}
use Rattle.ac_cloud.specs.Cloud.CloudWorld.{providers_of}
use Rattle.ac_rules.specs.Located.{ids_at}
use Rattle.ac_rules.proofs.located.TokenInCloud.write.Given as goal

abbrev pub invariant-loop-place : goal.invariant-loop-place
invariant-loop-place l = l.ids.items ≡ ids_at (providers_of l.cloud) (take l.place-index l.list)
