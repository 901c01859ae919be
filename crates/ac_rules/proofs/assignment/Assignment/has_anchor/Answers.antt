use Rattle.std.proofs.Common.{◌<◌, length, sym, ap, ◌∙◌, subst}
use Rattle.std.specs.List.{All, list_any}
use Rattle.ac_query.specs.Asked.{slots_of}
use Rattle.ac_query.specs.Shown.Queries.{asked_of}
use Rattle.ac_cloud.specs.Cloud.CloudWorld.{providers_of}
use Rattle.ac_rules.proofs.EachSlot.AnchorLemmas.{anchors_list, anchor_first, anchor_none, anchors_within}
use Rattle.ac_rules.proofs.assignment.Assignment.has_anchor.Goals as goal

pub has_anchor_among-requires : goal.has_anchor_among-requires
has_anchor_among-requires c =
    let all = providers_of c.args.self.now.cloud.now in
    subst (All (λ r. r < length all)) (sym c.anchors.ensures) (anchors_within all c.in-Some.ix.now)

pub returns-in-Some : goal.returns-in-Some
returns-in-Some c =
    let all = providers_of c.args.self.now.cloud.now in
    let asked = asked_of c.args.self.now.query.now in
    let list = c.args.self.now.list.now in
    c.has_anchor_among.ensures
    ∙ (ap (list_any (λ r. anchors_list all asked list r)) c.anchors.ensures
    ∙ anchor_first all asked (slots_of asked) list c.in-Some.ix.now c.in-Some.ensures.value c.args.self.now.slots)

pub returns-in-None : goal.returns-in-None
returns-in-None c =
    let asked = asked_of c.args.self.now.query.now in
    c.takes_some_root.ensures
    ∙ anchor_none (providers_of c.args.self.now.cloud.now) asked (slots_of asked) c.args.self.now.list.now c.in-None.ensures.value
