use Rattle.std.proofs.Common.{ℕ, length, Option, ap, sym}
use Rattle.std.specs.Option.{unwrap_or}
use Rattle.ac_cloud.specs.World.{id_at, root_of}
use Rattle.ac_cloud.specs.Cloud.CloudWorld.{providers_of}
use Rattle.ac_cloud.proofs.InOrder.{cloud_in_order}
use Rattle.ac_cloud.proofs.PlacesInOrder.{place_in_order}
use Rattle.ac_report.proofs.findings.why_rows.root_place.Goals as goal

pub returns-clause-place : goal.returns-clause-place
returns-clause-place c =
    let all = providers_of c.args.cloud.now in
    let order = (cloud_in_order c.args.cloud.now).order in
    sym (ap (λ (place : Option ℕ). unwrap_or place (length all)) (place_in_order all order (root_of all (id_at all c.args.host)) c.root.result c.root.ensures.inside c.root.ensures.id))
