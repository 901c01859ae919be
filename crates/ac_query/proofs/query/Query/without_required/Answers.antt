use Rattle.std.proofs.Common.{◌≡◌, List, Option, Some, ℕ, ap, append-nil, arith, map, subst, sum_by, sym}
use Rattle.std.proofs.lemmas.Grind.{common_steps}
use Rattle.ac_query.specs.Asked.{Group, slots_from}
use Rattle.ac_query.specs.Faults.{entry_count}
use Rattle.ac_query.specs.Shown.Groups.{group_entry}
use Rattle.ac_query.specs.Shown.Slots.{slot_shown}
use Rattle.ac_query.specs.Without.{relaxed}
use Rattle.ac_query.proofs.Relaxed.{entries_relaxed, slotted_relaxed}
use Rattle.ac_query.proofs.query.Query.without_required.Goals as goal

pub invariant_of-result-clause-few_entries : goal.invariant_of-result-clause-few_entries
invariant_of-result-clause-few_entries c =
    let gs = map group_entry c.args.self.groups.items in
    let made : map group_entry c.loop-group.list.items ≡ map relaxed gs = grind (arith, common_steps, append-nil) in
    let same = ap (sum_by entry_count) made in
    omega (arith, same, entries_relaxed gs, c.args.self.few_entries)

pub invariant_of-result-clause-slotted : goal.invariant_of-result-clause-slotted
invariant_of-result-clause-slotted c =
    let gs = map group_entry c.args.self.groups.items in
    let made : map group_entry c.loop-group.list.items ≡ map relaxed gs = grind (arith, common_steps, append-nil) in
    subst (λ (l : List (Option (List ℕ) × Group)). map (slot_shown l) c.args.self.slots.items ≡ map (λ s. Some s) (slots_from 0 l)) (sym made)
    (slotted_relaxed gs c.args.self.slots.items c.args.self.slotted)
