use Rattle.ac_base.proofs.Small.{handed_on}
use Rattle.ac_tables.proofs.Common.{◌≡◌, ◌∙◌, ◌<◌, ℕ, Option, Some, None, length, get_or, map, option_map, option_and_then, sym, ap, subst, arith, AreParents, rank, parent_in, top, IsFirst, providers_said, said_name, records_of}
use Rattle.ac_tables.specs.declared.fault.Table.TheVariants as table
use Rattle.ac_tables.specs.declared.fault.TableKind.TheVariants as kind
use Rattle.ac_tables.specs.declared.fault.TableFault.TheVariants as fault
use Rattle.ac_tables.specs.Tables.{ids_of}
use Rattle.ac_tables.proofs.Records.ProviderRecords.{ids_are, names_are}
use Rattle.ac_tables.proofs.Records.ProviderFaults.{tells_table, tells_trees, none_whole, tells_unknown, tells_cycle, tells_root, none_trees}
use Rattle.ac_tables.proofs.Records.TreeChecks.{tells_this, same_parents, unknown_told, parents_placed, as_ids, roots_inside, endless_told, wrong_told, kin_here}
use Rattle.ac_tables.proofs.tables.providers.read_providers.Goals as goal
use Rattle.ac_tables.proofs.tables.providers.read_providers.Goals.{In_ok-unknown, In_ok-check_marks, In_ok-roots, In_ok-endless, In_ok-other}
use Rattle.ac_tables.proofs.Records.TreeFaults.{endless_fault, root_fault, unknown_fault}

own : (c : In_ok-unknown) → c.in_ok-ids.ids.ids.items ≡ map (λ r. r.key) c.in_ok-rows.rows.items
own c = rw c.deref.ensures.value at c.in_ok-ids.ensures

are : (c : In_ok-unknown) → c.in_ok-parents.parents.items ≡ map (λ r. option_and_then (rank c.in_ok-ids.ids.ids.items) r.value.parent) c.in_ok-rows.rows.items
are c = rw c.deref-2.ensures.value at c.in_ok-parents.ensures

unknown_is : (c : In_ok-unknown) (first : Option ℕ) → IsFirst c.in_ok-rows.rows.items c.in_ok-unknown.unknown.items first
    → unknown_fault (providers_said (records_of c.args.text.now)) ≡ option_map (λ n. fault.At table.Providers n kind.UnknownParent) first
unknown_is c =
    unknown_told (providers_said (records_of c.args.text.now)) c.in_ok-rows.rows.items c.in_ok-rows.ensures.rows.table c.in_ok-ids.ids.ids.items (own c) c.in_ok-parents.parents.items (are c) c.in_ok-unknown.unknown.items
    (rw (c.deref-3.ensures.value, c.deref-4.ensures.value) at c.in_ok-unknown.ensures.marks)

known : (c : In_ok-check_marks) → unknown_fault (providers_said (records_of c.args.text.now)) ≡ None
known c =
    unknown_told (providers_said (records_of c.args.text.now)) c.in_ok-rows.rows.items c.in_ok-rows.ensures.rows.table c.in_ok-ids.ids.ids.items (rw c.deref.ensures.value at c.in_ok-ids.ensures) c.in_ok-parents.parents.items (rw c.deref-2.ensures.value at c.in_ok-parents.ensures) c.in_ok-unknown.unknown.items
    (rw (c.deref-3.ensures.value, c.deref-4.ensures.value) at c.in_ok-unknown.ensures.marks) None (rw (c.deref-5.ensures.value, c.deref-6.ensures.value) at c.in_ok-check_marks.ensures.ok)

sized : (c : In_ok-roots) → length c.in_ok-roots.roots.items ≡ length c.in_ok-parents.parents.items
sized c = c.in_ok-roots.ensures.length ∙ ap length c.deref-7.ensures.value

tops : (c : In_ok-roots) (i : ℕ) → i < length c.in_ok-parents.parents.items → get_or c.in_ok-roots.roots.items i 0 ≡ top (parent_in c.in_ok-parents.parents.items) (length c.in_ok-parents.parents.items) i
tops c = rw c.deref-7.ensures.value at c.in_ok-roots.ensures.tops

endless_is : (c : In_ok-endless) → unknown_fault (providers_said (records_of c.args.text.now)) ≡ None → (first : Option ℕ) → IsFirst c.in_ok-rows.rows.items c.in_ok-endless.endless.items first
    → endless_fault (providers_said (records_of c.args.text.now)) ≡ option_map (λ n. fault.At table.Providers n kind.ParentCycle) first
endless_is c fine =
    endless_told (providers_said (records_of c.args.text.now)) c.in_ok-rows.rows.items c.in_ok-rows.ensures.rows.table c.in_ok-ids.ids.ids.items (rw c.deref.ensures.value at c.in_ok-ids.ensures) c.in_ok-parents.parents.items (rw c.deref-2.ensures.value at c.in_ok-parents.ensures) fine
    c.in_ok-roots.roots.items (c.in_ok-roots.ensures.length ∙ ap length c.deref-7.ensures.value) (rw c.deref-7.ensures.value at c.in_ok-roots.ensures.tops) c.in_ok-endless.endless.items
    (rw (c.deref-8.ensures.value, c.deref-9.ensures.value) at c.in_ok-endless.ensures.marks)

root_is : (c : In_ok-other) → unknown_fault (providers_said (records_of c.args.text.now)) ≡ None → (first : Option ℕ) → IsFirst c.in_ok-rows.rows.items c.in_ok-other.other.items first
    → root_fault (providers_said (records_of c.args.text.now)) ≡ option_map (λ n. fault.At table.Providers n kind.WrongRoot) first
root_is c fine =
    wrong_told (providers_said (records_of c.args.text.now)) c.in_ok-rows.rows.items c.in_ok-rows.ensures.rows.table c.in_ok-ids.ids.ids.items (rw c.deref.ensures.value at c.in_ok-ids.ensures) c.in_ok-parents.parents.items (rw c.deref-2.ensures.value at c.in_ok-parents.ensures) fine
    c.in_ok-roots.roots.items (c.in_ok-roots.ensures.length ∙ ap length c.deref-7.ensures.value) (rw c.deref-7.ensures.value at c.in_ok-roots.ensures.tops) c.in_ok-other.other.items
    (rw (c.deref-12.ensures.value, c.deref-13.ensures.value) at c.in_ok-other.ensures.marks)

pub returns-in_err-rows-clause-fault : goal.returns-in_err-rows-clause-fault
returns-in_err-rows-clause-fault c =
    handed_on c.from_residual.result _ _ c.from_residual.ensures.1
    (tells_table (records_of c.args.text.now) c.in_err-rows.field-0.0 c.in_err-rows.ensures.fault)

pub find_ids-requires : goal.find_ids-requires
find_ids-requires c = rw c.deref.ensures.value (providers_said (records_of c.args.text.now), c.in_ok-rows.ensures.rows)

pub returns-in_err-check_marks-clause-fault : goal.returns-in_err-check_marks-clause-fault
returns-in_err-check_marks-clause-fault c =
    let found = rw (c.deref-5.ensures.value, c.deref-6.ensures.value) at c.in_err-check_marks.ensures.fault in
    let told = unknown_is (goal.at.returns-in_err-check_marks-clause-fault c).In_ok-unknown (Some found.0) found.2 in
    handed_on c.from_residual-in_err-check_marks.result _ _ c.from_residual-in_err-check_marks.ensures.1
    (tells_trees (records_of c.args.text.now) c.in_err-check_marks.field-0.0 c.in_ok-rows.ensures.ok (tells_unknown _ c.in_err-check_marks.field-0.0 (tells_this _ c.in_err-check_marks.field-0.0 _ found.1 told)))

pub find_tops-requires-clause-known : goal.find_tops-requires-clause-known
find_tops-requires-clause-known c =
    let u = (goal.at.find_tops-requires-clause-known c).In_ok-unknown in
    subst AreParents (sym c.deref-7.ensures.value)
    (parents_placed (providers_said (records_of c.args.text.now)) c.in_ok-rows.rows.items c.in_ok-rows.ensures.rows.table c.in_ok-ids.ids.ids.items (own u) c.in_ok-parents.parents.items (are u) (known (goal.at.find_tops-requires-clause-known c).In_ok-check_marks))

pub mark_endless-requires : goal.mark_endless-requires
mark_endless-requires c =
    let at = goal.at.mark_endless-requires c in
    rw (c.deref-8.ensures.value, c.deref-9.ensures.value)
    (roots_inside (providers_said (records_of c.args.text.now)) c.in_ok-rows.rows.items c.in_ok-rows.ensures.rows.table c.in_ok-ids.ids.ids.items (own at.In_ok-unknown) c.in_ok-parents.parents.items (are at.In_ok-unknown) (known at.In_ok-check_marks)
    c.in_ok-roots.roots.items (sized at.In_ok-roots) (tops at.In_ok-roots))

pub returns-in_err-check_marks-2-clause-fault : goal.returns-in_err-check_marks-2-clause-fault
returns-in_err-check_marks-2-clause-fault c =
    let at = goal.at.returns-in_err-check_marks-2-clause-fault c in
    let found = rw (c.deref-10.ensures.value, c.deref-11.ensures.value) at c.in_err-check_marks-2.ensures.fault in
    let told = endless_is at.In_ok-endless (known at.In_ok-check_marks) (Some found.0) found.2 in
    handed_on c.from_residual-in_err-check_marks-2.result _ _ c.from_residual-in_err-check_marks-2.ensures.1
    (tells_trees (records_of c.args.text.now) c.in_err-check_marks-2.field-0.0 c.in_ok-rows.ensures.ok (tells_cycle _ c.in_err-check_marks-2.field-0.0 (known at.In_ok-check_marks) (tells_this _ c.in_err-check_marks-2.field-0.0 _ found.1 told)))

pub mark_other_roots-requires-clause-inside : goal.mark_other_roots-requires-clause-inside
mark_other_roots-requires-clause-inside c =
    let at = goal.at.mark_other_roots-requires-clause-inside c in
    let said = providers_said (records_of c.args.text.now) in
    let inside = roots_inside said c.in_ok-rows.rows.items c.in_ok-rows.ensures.rows.table c.in_ok-ids.ids.ids.items (own at.In_ok-unknown) c.in_ok-parents.parents.items (are at.In_ok-unknown) (known at.In_ok-check_marks)
    c.in_ok-roots.roots.items (sized at.In_ok-roots) (tops at.In_ok-roots) in
    let as_many = as_ids said c.in_ok-rows.rows.items c.in_ok-rows.ensures.rows.table c.in_ok-ids.ids.ids.items (own at.In_ok-unknown) c.in_ok-parents.parents.items (are at.In_ok-unknown) (known at.In_ok-check_marks) in
    rw c.deref-13.ensures.value (λ (k : ℕ) (h : k < length c.in_ok-roots.roots.items). let i = inside k h in omega (arith, i, as_many))

pub returns-in_err-check_marks-3-clause-fault : goal.returns-in_err-check_marks-3-clause-fault
returns-in_err-check_marks-3-clause-fault c =
    let at = goal.at.returns-in_err-check_marks-3-clause-fault c in
    let found = rw (c.deref-14.ensures.value, c.deref-15.ensures.value) at c.in_err-check_marks-3.ensures.fault in
    let told = root_is at.In_ok-other (known at.In_ok-check_marks) (Some found.0) found.2 in
    handed_on c.from_residual-in_err-check_marks-3.result _ _ c.from_residual-in_err-check_marks-3.ensures.1
    (tells_trees (records_of c.args.text.now) c.in_err-check_marks-3.field-0.0 c.in_ok-rows.ensures.ok
    (tells_root _ c.in_err-check_marks-3.field-0.0 (known at.In_ok-check_marks) (endless_is at.In_ok-endless (known at.In_ok-check_marks) None (rw (c.deref-10.ensures.value, c.deref-11.ensures.value) at c.in_ok-check_marks-2.ensures.ok)) (tells_this _ c.in_err-check_marks-3.field-0.0 _ found.1 told)))

pub returns-clause-ids : goal.returns-clause-ids
unfolding ids_of
returns-clause-ids c = own (goal.at.returns-clause-ids c).In_ok-unknown ∙ ids_are (providers_said (records_of c.args.text.now)) c.in_ok-rows.rows.items c.in_ok-rows.ensures.rows.table

pub returns-clause-parents : goal.returns-clause-parents
returns-clause-parents c =
    let u = (goal.at.returns-clause-parents c).In_ok-unknown in
    same_parents (providers_said (records_of c.args.text.now)) c.in_ok-rows.rows.items c.in_ok-rows.ensures.rows.table c.in_ok-ids.ids.ids.items (own u) c.in_ok-parents.parents.items (are u)

pub returns-clause-names : goal.returns-clause-names
returns-clause-names c =
    let u = (goal.at.returns-clause-names c).In_ok-unknown in
    rw c.deref-16.ensures.value at c.in_ok-names.ensures ∙ names_are (providers_said (records_of c.args.text.now)) c.in_ok-rows.rows.items c.in_ok-rows.ensures.rows.table ∙ ap (map (said_name (providers_said (records_of c.args.text.now)))) (sym (own u))

pub returns-clause-kin : goal.returns-clause-kin
returns-clause-kin c =
    let at = goal.at.returns-clause-kin c in
    kin_here (providers_said (records_of c.args.text.now)) c.in_ok-rows.rows.items c.in_ok-rows.ensures.rows.table c.in_ok-ids.ids.ids.items (own at.In_ok-unknown) c.in_ok-parents.parents.items (are at.In_ok-unknown) (known at.In_ok-check_marks)
    (endless_is at.In_ok-endless (known at.In_ok-check_marks) None (rw (c.deref-10.ensures.value, c.deref-11.ensures.value) at c.in_ok-check_marks-2.ensures.ok))

pub returns-clause-ok : goal.returns-clause-ok
returns-clause-ok c =
    let at = goal.at.returns-clause-ok c in
    let rooted = root_is at.In_ok-other (known at.In_ok-check_marks) None (rw (c.deref-14.ensures.value, c.deref-15.ensures.value) at c.in_ok-check_marks-3.ensures.ok) in
    none_whole (records_of c.args.text.now) c.in_ok-rows.ensures.ok (none_trees _ (known at.In_ok-check_marks) (endless_is at.In_ok-endless (known at.In_ok-check_marks) None (rw (c.deref-10.ensures.value, c.deref-11.ensures.value) at c.in_ok-check_marks-2.ensures.ok)) rooted)
