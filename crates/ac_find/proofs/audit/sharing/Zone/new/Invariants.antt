use Rattle.std.proofs.Common.{◌≡◌, ◌++◌, drop, length, map}
use Rattle.ac_cloud.specs.Cloud.Anchors.{list_items}
use Rattle.ac_cloud.specs.Cloud.CloudWorld.{providers_of, root_lists_of}
use Rattle.ac_find.specs.Audit.{hosts_in}
use Rattle.ac_find.proofs.audit.sharing.Zone.new.Given as goal

abbrev pub invariant-loop-roots : goal.invariant-loop-roots
invariant-loop-roots l =
    l.hosts.items ++ map (λ roots. length (hosts_in (providers_of l.cloud) l.id roots)) (map list_items (drop l.roots-index l.roots-items))
    ≡ map (λ roots. length (hosts_in (providers_of l.cloud) l.id roots)) (root_lists_of l.cloud)
