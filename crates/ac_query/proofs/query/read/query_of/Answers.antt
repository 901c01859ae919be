use Rattle.std.proofs.Common.{◌≡◌, ◌∙◌, ap, map, length, arith, List, Some, subst, sum_by}
use Rattle.ac_query.specs.Faults.{entry_count}
use Rattle.ac_query.specs.declared.group.Group.{Group}
use Rattle.ac_query.specs.Shown.Slots.{slot_shown}
use Rattle.ac_query.specs.Asked.{slots_from}
use Rattle.ac_query.specs.Shown.Groups.{group_entry}
use Rattle.ac_query.specs.Shown.Draft.{draft_asked}
use Rattle.ac_query.proofs.Slots.{slots_count}
use Rattle.ac_query.proofs.SlotCounts.{some_slots, few_slots, few_entries}
use Rattle.ac_query.proofs.query.read.query_of.Goals as goal

pub invariant_of-result-clause-some : goal.invariant_of-result-clause-some
invariant_of-result-clause-some c =
    let count = slots_count (map group_entry c.as_slice.result.now) c.in_ok-slots.slots.items (slots_from 0 (map group_entry c.as_slice.result.now)) c.in_ok-slots.ensures in
    let same = ap (λ gs. length (slots_from 0 gs)) (ap (map group_entry) c.as_slice.ensures.value ∙ c.in_ok-groups.ensures) in
    let some = some_slots (draft_asked c.args.draft) c.requires in
    omega (arith, count, same)

pub invariant_of-result-clause-few : goal.invariant_of-result-clause-few
invariant_of-result-clause-few c =
    let count = slots_count (map group_entry c.as_slice.result.now) c.in_ok-slots.slots.items (slots_from 0 (map group_entry c.as_slice.result.now)) c.in_ok-slots.ensures in
    let same = ap (λ gs. length (slots_from 0 gs)) (ap (map group_entry) c.as_slice.ensures.value ∙ c.in_ok-groups.ensures) in
    let few = few_slots (draft_asked c.args.draft) c.requires in
    omega (arith, count, same)

pub invariant_of-result-clause-slotted : goal.invariant_of-result-clause-slotted
invariant_of-result-clause-slotted c =
    let P : List Group → Type 0 = λ gs. map (slot_shown (map group_entry gs)) c.in_ok-slots.slots.items ≡ map (λ s. Some s) (slots_from 0 (map group_entry gs)) in
    subst P c.as_slice.ensures.value c.in_ok-slots.ensures

pub invariant_of-result-clause-few_entries : goal.invariant_of-result-clause-few_entries
invariant_of-result-clause-few_entries c =
    let same = ap (sum_by entry_count) c.in_ok-groups.ensures in
    let few = few_entries (draft_asked c.args.draft) c.requires in
    omega (arith, same)
