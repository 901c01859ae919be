use Rattle.std.proofs.Common.{◌≡◌, ℕ, ◌<◌, ap, sym, subst, length, ◌∙◌, get_or}
use Rattle.std.proofs.Math.ListN.{get_or-map}
use Rattle.std.proofs.lemmas.List.{get_or-map as get_or-map_at}
use Rattle.ac_query.specs.Asked.{slots_of}
use Rattle.ac_query.specs.Shown.Queries.{asked_of}
use Rattle.ac_query.specs.Shown.Slots.{slot_group}
use Rattle.ac_rules.specs.Placed.{slot_at, no_slot}
use Rattle.ac_rules.proofs.SlotLemmas.{place_within}
use Rattle.ac_rules.proofs.slots.place_at.Goals as goal

pub returns : goal.returns
returns c =
    let asked = asked_of c.args.query.now in
    let place : c.group.result ≡ (slot_at asked c.args.s).place =
    c.group.ensures
    ∙ (sym (get_or-map slot_group c.slots.result.now c.args.s _)
    ∙ (ap (λ xs. get_or xs c.args.s 0) c.slots.ensures.groups ∙ get_or-map_at (λ s. s.place) (slots_of asked) c.args.s no_slot 0 c.requires)) in
    record { place = place; within = subst (λ (i : ℕ). i < length asked.groups) (sym place) (place_within asked c.args.s c.requires) }
