-- The faults of the parts, in their order, are the fault of the whole.
use Rattle.ac_tables.proofs.Common.{◌≡◌, ◌<◌, ◌∙◌, ◌++◌, ℕ, Bool, true, false, List, [], ◌∷◌, length, get_or, Option, Some, None, refl, arith, rules, zero, suc, ◌+◌, inl, inr, ◌&&◌, not, is_some, unwrap_or, cases_Bool, first_failing, pass, Tells, ProviderRecord, record_at, no_record, providers_said, has_unknown_parent, Table, TableKind, TableFault}
use Rattle.ac_tables.specs.Tables.ProviderTable.{place_of, provider_records_fault, providers_fault}
use Rattle.ac_tables.specs.declared.fault.Table.TheVariants as table
use Rattle.ac_tables.specs.declared.fault.TableKind.TheVariants as kind
use Rattle.ac_tables.specs.declared.fault.TableFault.TheVariants as fault
use Rattle.ac_tables.proofs.FirstFailing.{append_none, append_some}
use Rattle.ac_tables.proofs.Records.TreeFaults.{AreDistinct, AreTrees, endless_fault, root_fault, trees_fault, unknown_fault}

pub tells_first : (xs ys : List (Bool × TableFault)) (e : TableFault) → Tells (first_failing xs) e → Tells (first_failing (xs ++ ys)) e
tells_first xs ys (fault.At t r k) h = append_some xs ys (fault.At t r k) h
tells_first xs ys fault.NoMemory h = tt

pub tells_next : (xs ys : List (Bool × TableFault)) (e : TableFault) → first_failing xs ≡ None → Tells (first_failing ys) e → Tells (first_failing (xs ++ ys)) e
tells_next xs ys (fault.At t r k) none h = append_none xs ys none ∙ h
tells_next xs ys fault.NoMemory none h = tt

pub tells_table : (rows : List (List (List ℕ))) (e : TableFault) → Tells (provider_records_fault rows) e → Tells (providers_fault rows) e
unfolding provider_records_fault providers_fault
tells_table rows e h = search (rules, tells_first)

pub tells_trees : (rows : List (List (List ℕ))) (e : TableFault) → provider_records_fault rows ≡ None → Tells (trees_fault (providers_said rows)) e → Tells (providers_fault rows) e
unfolding provider_records_fault trees_fault providers_fault
tells_trees rows e none h = search (rules, tells_first, tells_next)

pub none_whole : (rows : List (List (List ℕ))) → provider_records_fault rows ≡ None → trees_fault (providers_said rows) ≡ None → providers_fault rows ≡ None
unfolding provider_records_fault trees_fault providers_fault
none_whole rows none h = search (rules, append_none)

pub tells_unknown : (all : List ProviderRecord) (e : TableFault) → Tells (unknown_fault all) e → Tells (trees_fault all) e
unfolding unknown_fault trees_fault
tells_unknown all e h = search (rules, tells_first, tells_next)

pub tells_cycle : (all : List ProviderRecord) (e : TableFault) → unknown_fault all ≡ None → Tells (endless_fault all) e → Tells (trees_fault all) e
unfolding unknown_fault endless_fault trees_fault
tells_cycle all e none h = search (rules, tells_first, tells_next)

pub tells_root : (all : List ProviderRecord) (e : TableFault) → unknown_fault all ≡ None → endless_fault all ≡ None → Tells (root_fault all) e → Tells (trees_fault all) e
unfolding unknown_fault endless_fault root_fault trees_fault
tells_root all e none none2 h = search (rules, tells_first, tells_next, append_none)

pub none_trees : (all : List ProviderRecord) → unknown_fault all ≡ None → endless_fault all ≡ None → root_fault all ≡ None → trees_fault all ≡ None
unfolding unknown_fault endless_fault root_fault trees_fault
none_trees all none none2 none3 = search (rules, append_none)

-- where a pass finds nothing, no item fails
pub none_fails : {X : Type 0} (t : Table) (k : TableKind) (fails : X → Bool) (n : ℕ) (xs : List X) (d : X) → first_failing (pass t k fails n xs) ≡ None
    → (i : ℕ) → i < length xs → fails (get_or xs i d) ≡ false
none_fails t k fails n [] d e i h = absurd (omega (arith, h))
none_fails t k fails n (x ∷ xs) d e zero h = elim (cases_Bool (fails x)) [ inl y ↦ absurd (cc (rw y at e)) | inr y ↦ y ]
none_fails t k fails n (x ∷ xs) d e (suc i) h = elim (cases_Bool (fails x)) [
  | inl y ↦ absurd (cc (rw y at e))
  | inr y ↦ none_fails t k fails (n + 1) xs d (rw y at e) i (omega (arith, h))
]

some_place : (o : Option ℕ) → (true && not (is_some o)) ≡ false → (j : ℕ) × (o ≡ Some j)
some_place None e = absurd (cc)
some_place (Some j) e = (j, refl)

known_parent : (all : List ProviderRecord) (parent : Option ℕ) (q : ℕ) → parent ≡ Some q → (is_some parent && not (is_some (place_of all (unwrap_or parent 0)))) ≡ false
    → (j : ℕ) × (place_of all q ≡ Some j)
known_parent all parent q e h = some_place (place_of all q) (rw e at h)

pub are_trees : (all : List ProviderRecord) → AreDistinct all → unknown_fault all ≡ None → AreTrees all
unfolding unknown_fault
are_trees all distinct none = record {
  distinct = distinct;
  known = λ (i q : ℕ) (h : i < length all) (e : (record_at all i).parent ≡ Some q).
      known_parent all (record_at all i).parent q e (none_fails table.Providers kind.UnknownParent (has_unknown_parent all) 2 all no_record none i h);
}

-- what shows, table by table, what the reading of all tells
pub ruleset reading = (tells_first, tells_next, append_none)
