use Rattle.ac_cloud.proofs.Common.{◌<◌, ◌∙◌, [], map, length, sym, arith, get_or-map, list_items, lists_of}
use Rattle.ac_cloud.proofs.Places.AnchorLists.{joined_some, joined_none}
use Rattle.ac_cloud.proofs.cloud.anchors.Members.find_next.Goals as goal

pub returns-clause-joined : goal.returns-clause-joined
returns-clause-joined c =
    let members = c.args.self.now in
    let asked = members.asked.now in
    let places = c.args.places.now in
    let inside : length places < length asked = omega (arith, c.requires.more, members.asks) in
    joined_some members.roots.now (lists_of members.aggregates.now) (map list_items asked) c.args.kept.lists.items c.in_ok-kept.kept.lists.items places c.in_ok-kept.place c.as_slice-ids.result.now c.requires.joined
    c.in_ok-kept.ensures.rest c.in_ok-kept.ensures.stay c.in_ok-kept.ensures.inside c.in_ok-kept.ensures.here
    (c.as_slice-ids.ensures.value ∙ sym (get_or-map list_items asked (length places) c.index-self-places.result [] inside))

pub returns-then-is_empty-clause-joined : goal.returns-then-is_empty-clause-joined
returns-then-is_empty-clause-joined c =
    let members = c.args.self.now in
    joined_none members.roots.now (lists_of members.aggregates.now) (map list_items members.asked.now) c.args.kept.lists.items c.args.places.now c.requires.joined
