use Rattle.ac_cloud.proofs.Common.{lists_of}
use Rattle.ac_cloud.proofs.Places.AnchorLists.{joined_list}
use Rattle.ac_cloud.proofs.cloud.anchors.Members.join.Goals as goal

pub returns : goal.returns
returns c =
    let members = c.args.self.now in
    joined_list members.roots.now (lists_of members.aggregates.now) members.inside members.groups.now.map c.args.ids.now c.in_ok-list.list.items members.gathered c.in_ok-list.ensures.rising c.in_ok-list.ensures.roots
