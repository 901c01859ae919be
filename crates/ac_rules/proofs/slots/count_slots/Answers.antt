use Rattle.std.proofs.Common.{length, ap, sym, ◌∙◌}
use Rattle.std.proofs.lemmas.List.{length-map}
use Rattle.ac_query.specs.Asked.{slots_of}
use Rattle.ac_query.specs.Shown.Queries.{asked_of}
use Rattle.ac_query.specs.Shown.Slots.{slot_group}
use Rattle.ac_rules.proofs.slots.count_slots.Goals as goal

pub returns-clause-count : goal.returns-clause-count
returns-clause-count c =
    let slots = slots_of (asked_of c.args.query.now) in
    sym (length-map c.slots.result.now slot_group) ∙ (ap length c.slots.ensures.groups ∙ length-map slots (λ s. s.place))
