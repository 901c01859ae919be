use Rattle.std.proofs.Common.{◌-◌, sym, ap, arith}
use Rattle.std.proofs.lemmas.List.{get_or_past}
use Rattle.ac_query.specs.Asked.{Slot, slots_of}
use Rattle.ac_query.specs.Shown.Queries.{asked_of}
use Rattle.ac_rules.specs.Placed.{no_slot}
use Rattle.ac_report.proofs.findings.host_details.needs_of.Goals as goal

pub returns-else-s-count_slots : goal.returns-else-s-count_slots
unfolding no_slot
returns-else-s-count_slots c =
    sym (ap (λ (slot : Slot). slot.needs)
    (get_or_past (slots_of (asked_of c.args.query.now)) (c.args.number - 1) no_slot (omega (arith, c.if-s-count_slots.false, c.count_slots.ensures.count, c.saturating_sub-s.ensures))))
