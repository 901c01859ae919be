use Rattle.std.proofs.Common.{length, slice_index, inl, inr, ap, arith}
use Rattle.std.proofs.lemmas.Bool.{cases_eq}
use Rattle.std.proofs.lemmas.List.{with_items_is}
use Rattle.ac_prune.specs.Loads.{choice_in}
use Rattle.ac_prune.proofs.families.parts.tops_of.Goals as goal

pub mark_slot-requires-clause-list : goal.mark_slot-requires-clause-list
mark_slot-requires-clause-list c = rw (c.deref_mut.ensures.value, c.loop-s.invariant.count) c.of_slot.ensures.low

pub loop-s-preserved : goal.loop-s-preserved
loop-s-preserved c =
    let l = c.args.choices.now.ledger.now in
    let were = ap length c.deref_mut.ensures.value in
    let items = with_items_is c.loop-s.tops c.mark_slot.new.marks (omega (arith, c.mark_slot.ensures.count, were, c.loop-s.tops.ok)) in
    record {
      count = omega (arith, ap length items, c.mark_slot.ensures.count, were, c.loop-s.invariant.count);
      tops = λ u j h named inside.
          rw items (elim (cases_eq u c.loop-s.s) [
            | inl e ↦ let marked = rw (c.of_slot.ensures.list, ← e) at c.mark_slot.ensures.marked in marked named.1 j inside
            | inr e ↦ c.mark_slot.ensures.kept (slice_index (choice_in l u) j) (rw c.deref_mut.ensures.value (c.loop-s.invariant.tops u j (omega (arith, h, e)) named inside))
          ]);
    }
