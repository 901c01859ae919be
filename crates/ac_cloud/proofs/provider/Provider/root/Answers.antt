use Rattle.std.proofs.Common.{refl}
use Rattle.ac_cloud.specs.World.{id_at, root_of}
use Rattle.ac_cloud.specs.Cloud.CloudWorld.{providers_of}
use Rattle.ac_cloud.proofs.InOrder.{cloud_in_order}
use Rattle.ac_cloud.proofs.PlacesInOrder.{place_in_order}
use Rattle.ac_cloud.proofs.provider.Provider.root.Goals as goal

pub returns-clause-root : goal.returns-clause-root
returns-clause-root c =
    let p = c.args.self.now in
    let all = providers_of p.cloud.now in
    let root = root_of all (id_at all p.ix) in
    rw (place_in_order all (cloud_in_order p.cloud.now).order root c.root.result c.root.ensures.inside c.root.ensures.id) refl
