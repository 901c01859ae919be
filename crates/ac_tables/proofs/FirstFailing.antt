-- The first check that fails, in lists that are joined.
use Rattle.ac_tables.proofs.Common.{◌≡◌, ◌∙◌, ℕ, Bool, true, false, List, [], ◌∷◌, ◌++◌, Option, Some, None, refl, Ok, Err, first_failing, told_at, TellsKind, Table, TableKind, RecordFault, TableFault}
use Rattle.ac_tables.specs.Tables.Checks.{unless}
use Rattle.ac_tables.specs.declared.fault.RecordFault.TheVariants as record_fault
use Rattle.ac_tables.specs.declared.fault.TableFault.TheVariants as fault

pub append_none : {X : Type 0} (xs ys : List (Bool × X)) → first_failing xs ≡ None → first_failing (xs ++ ys) ≡ first_failing ys
append_none [] ys e = refl
append_none ((true, k) ∷ xs) ys e = absurd (cc)
append_none ((false, k) ∷ xs) ys e = append_none xs ys e

pub append_some : {X : Type 0} (xs ys : List (Bool × X)) (k : X) → first_failing xs ≡ Some k → first_failing (xs ++ ys) ≡ Some k
append_some [] ys k e = absurd (cc)
append_some ((true, j) ∷ xs) ys k e = e
append_some ((false, j) ∷ xs) ys k e = append_some xs ys k e

-- no check of a record fails: what is told is told of a later one
pub told_none : (t : Table) (n : ℕ) (xs : List (Bool × TableKind)) (ys : List (Bool × TableFault)) → first_failing xs ≡ None → first_failing (told_at t n xs ++ ys) ≡ first_failing ys
told_none t n [] ys e = refl
told_none t n ((true, k) ∷ xs) ys e = absurd (cc)
told_none t n ((false, k) ∷ xs) ys e = told_none t n xs ys e

-- a check of a record fails: that is told
pub told_some : (t : Table) (n : ℕ) (xs : List (Bool × TableKind)) (ys : List (Bool × TableFault)) (k : TableKind) → first_failing xs ≡ Some k → first_failing (told_at t n xs ++ ys) ≡ Some (fault.At t n k)
told_some t n [] ys k e = absurd (cc)
told_some t n ((true, j) ∷ xs) ys k e = let same : j ≡ k = cc in rw same refl
told_some t n ((false, j) ∷ xs) ys k e = told_some t n xs ys k e

-- what an answer says of the checks
pub unless_err : {X : Type 0} (o : Option TableKind) (v : X) (k : TableKind) → unless o v ≡ Err k → o ≡ Some k
unless_err None v k e = absurd (cc)
unless_err (Some j) v k e = cc

pub unless_none : {X : Type 0} (o : Option TableKind) (v p : X) → unless o v ≡ Ok p → o ≡ None
unless_none None v p e = refl
unless_none (Some j) v p e = absurd (cc)

pub unless_value : {X : Type 0} (o : Option TableKind) (v p : X) → unless o v ≡ Ok p → p ≡ v
unless_value None v p e = cc
unless_value (Some j) v p e = absurd (cc)

-- the same of a record's fault
pub tells_front : (xs ys : List (Bool × TableKind)) (e : RecordFault) → TellsKind (first_failing xs) e → TellsKind (first_failing (xs ++ ys)) e
tells_front xs ys (record_fault.Kind k) h = append_some xs ys k h
tells_front xs ys record_fault.NoMemory h = tt

pub tells_back : (xs ys : List (Bool × TableKind)) (e : RecordFault) → first_failing xs ≡ None → TellsKind (first_failing ys) e → TellsKind (first_failing (xs ++ ys)) e
tells_back xs ys (record_fault.Kind k) none h = append_none xs ys none ∙ h
tells_back xs ys record_fault.NoMemory none h = tt
