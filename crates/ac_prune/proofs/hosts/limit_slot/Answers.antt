use Rattle.ac_prune.proofs.Roots.RootLemmas.{if_ok, slot_keeps}
use Rattle.ac_prune.proofs.hosts.limit_slot.Goals as goal

pub serving-requires : goal.serving-requires
serving-requires c = rw c.len.ensures c.of_slot.ensures.low

pub returns : goal.returns
returns c = if_ok _ _ c.limit.result
    (λ _ is. slot_keeps c.args.choices.now.ledger.now c.args.may.now c.limit.new.may c.of_slot.result.now c.in_ok-rooms.rooms.items c.args.s c.requires.slot c.of_slot.ensures.list c.in_ok-rooms.ensures.rooms c.requires.hosts c.limit.auto.may
    (rw c.deref.ensures.value at is))
    c.limit.ensures
