use Rattle.std.proofs.Common.{ap, sym, ◌∙◌}
use Rattle.ac_query.specs.Shown.Queries.{asked_of}
use Rattle.ac_cloud.specs.World.{id_at, root_of}
use Rattle.ac_cloud.specs.Cloud.CloudWorld.{providers_of}
use Rattle.ac_cloud.proofs.InOrder.{cloud_in_order}
use Rattle.ac_rules.specs.Placed.{placed_at}
use Rattle.ac_cloud.proofs.PlacesInOrder.{place_in_order}
use Rattle.ac_rules.proofs.PlaceLemmas.{found_within, tree_at}
use Rattle.ac_rules.proofs.assignment.Placed.is_in_tree.Goals as goal

pub root-requires-in-Some-index_of : goal.root-requires-in-Some-index_of
root-requires-in-Some-index_of c =
    found_within (providers_of c.args.self.now.cloud.now) c.in-Some.id c.in-Some-index_of.named (sym c.in-Some-index_of.ensures)

pub returns-in-Some-index_of : goal.returns-in-Some-index_of
returns-in-Some-index_of c =
    let all = providers_of c.args.self.now.cloud.now in
    let order = (cloud_in_order c.args.self.now.cloud.now).order in
    let ix = c.args.self.now.provider in
    let place = c.in-Some-index_of.named in
    tree_at all (placed_at (asked_of c.args.self.now.query.now) c.args.self.now.slot ix) c.in-Some.id place
    c.root.result c.root-in-Some-index_of.result
    (sym (ap (λ entry. entry.1.in_tree) c.group.ensures) ∙ sym c.in-Some.ensures) (sym c.in-Some-index_of.ensures)
    (place_in_order all order (root_of all (id_at all ix)) c.root.result c.root.ensures.inside c.root.ensures.id)
    (place_in_order all order (root_of all (id_at all place)) c.root-in-Some-index_of.result c.root-in-Some-index_of.ensures.inside c.root-in-Some-index_of.ensures.id)
