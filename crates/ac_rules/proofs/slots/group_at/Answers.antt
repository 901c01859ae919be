use Rattle.std.proofs.Common.{ap, sym, ◌∙◌, get_or}
use Rattle.std.proofs.Math.ListN.{get_or-map}
use Rattle.ac_query.specs.Shown.Groups.{group_entry}
use Rattle.ac_query.specs.Shown.Queries.{asked_of}
use Rattle.ac_rules.proofs.SlotLemmas.{slot_entry}
use Rattle.ac_rules.proofs.slots.group_at.Goals as goal

pub returns : goal.returns
returns c =
    let asked = asked_of c.args.query.now in
    let found = c.index-groups-place_at.result in
    ap group_entry c.index-groups-place_at.is
    ∙ (sym (get_or-map group_entry c.groups.result.now c.place_at.result found)
    ∙ (ap (λ gs. get_or gs c.place_at.result (group_entry found)) c.groups.ensures.groups
    ∙ (ap (λ i. get_or asked.groups i (group_entry found)) c.place_at.ensures.place ∙ slot_entry asked c.args.s (group_entry found) c.requires)))
