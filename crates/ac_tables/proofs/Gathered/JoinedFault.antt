-- The first fault of records, of which those before one have none.
use Rattle.ac_tables.proofs.Common.{◌≡◌, ◌∙◌, ◌+◌, ◌<◌, ◌≤◌, ℕ, zero, suc, List, [], map, length, get_or, take, drop, Option, Some, None, refl, sym, ap, arith, drop-cons, length-map, length-take-le, Row, Check, first_failing, record_checks, Table, TableFault, TableKind}
use Rattle.std.proofs.Common.{add-one}
use Rattle.std.proofs.lemmas.List.{drop_all, map_more}
use Rattle.ac_tables.specs.Tables.Checks.{rows_fault}
use Rattle.ac_tables.specs.declared.fault.TableFault.TheVariants as fault
use Rattle.ac_tables.proofs.FirstFailing.{told_none, told_some}

module _ {V : Type 0} (t : Table) (says : Row → V) (checks : List V → Row → List Check) (all : List Row) where
  -- the checks of a record, beside what those before it say
  abbrev pub checks_at : ℕ → List Check
  checks_at i = checks (map says (take i all)) (get_or all i [])

  abbrev from : List V → List Row → Option TableFault
  from before rows = first_failing (record_checks t says checks before rows)

  ahead : (k : ℕ) → k ≤ length all → ((i : ℕ) → i < k → first_failing (checks_at i) ≡ None) → from [] all ≡ from (map says (take k all)) (drop k all)
  ahead zero le fine = refl
  ahead (suc k) le fine =
      ahead k (omega arith) (λ i h. fine i (omega arith)) ∙ ap (from (map says (take k all))) (drop-cons all k [] (omega arith))
      ∙ told_none t _ (checks_at k) _ (fine k (omega arith))
      ∙ ap (λ vs. from vs (drop (suc k) all)) (sym (map_more says all k [] (omega arith)) ∙ ap (λ n. map says (take n all)) (add-one k))

  -- no fault
  pub joined_none : ((i : ℕ) → i < length all → first_failing (checks_at i) ≡ None) → rows_fault t says checks [] all ≡ None
  unfolding rows_fault
  joined_none fine = ahead (length all) (omega arith) fine ∙ ap (from (map says (take (length all) all))) (drop_all (length all) all (omega arith))

  -- the first record that has a fault
  pub joined_at : (j n : ℕ) (k : TableKind) → j < length all → n ≡ j + 2 → ((i : ℕ) → i < j → first_failing (checks_at i) ≡ None) → first_failing (checks_at j) ≡ Some k
      → rows_fault t says checks [] all ≡ Some (fault.At t n k)
  unfolding rows_fault
  joined_at j n k inside e fine fails =
      ahead j (omega arith) fine ∙ ap (from (map says (take j all))) (drop-cons all j [] inside) ∙ told_some t _ (checks_at j) _ k fails
      ∙ ap (λ m. Some (fault.At t m k)) (omega (arith, e, length-map (take j all) says, length-take-le j all (omega arith)))
