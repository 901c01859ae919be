use Rattle.std.proofs.Common.{◌≡◌, map, take}
use Rattle.ac_cloud.specs.Cloud.CloudWorld.{providers_of}
use Rattle.ac_cloud.specs.World.{root_of}
use Rattle.ac_change.specs.Held.{provider_held}
use Rattle.ac_change.proofs.draft.following.hold_all.Given as goal

abbrev pub invariant-loop-ix : goal.invariant-loop-ix
invariant-loop-ix l =
    record {
      providers : map provider_held l.list.items ≡ take l.ix (providers_of l.cloud);
      roots : map (λ h. h.root) l.list.items ≡ map (λ p. root_of (providers_of l.cloud) p.id) (take l.ix (providers_of l.cloud));
    }
