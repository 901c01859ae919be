-- The checks of a header, and then those of the records.
use Rattle.ac_tables.proofs.Common.{◌≡◌, ◌∙◌, ◌++◌, ℕ, Bool, true, false, List, [], ◌∷◌, map, ◌<◌, arith, Option, Some, None, IsTable, TableRow, Ordering, refl, sym, ap, inl, inr, cases_Bool, list_any, Row, Check, first_failing, record_checks, told_at, Tells, table_checks, Table, TableKind, TableFault}
use Rattle.ac_tables.specs.Tables.Checks.{told, TellsKind, fault_at}
use Rattle.ac_tables.specs.declared.fault.RecordFault.{RecordFault}
use Rattle.ac_tables.specs.declared.fault.RecordFault.TheVariants as record_fault
use Rattle.ac_tables.specs.Tables.Columns.{is_missing, is_double, header_checks, header_fault, header_kind, said_by}
use Rattle.ac_tables.specs.Tables.Names.{columns_needed, name_of, names_needed}
use Rattle.ac_tables.specs.declared.fault.Table.TheVariants as table
use Rattle.ac_tables.specs.declared.columns.Column.{Column}
use Rattle.ac_tables.specs.declared.fault.TableKind.TheVariants as kind
use Rattle.ac_tables.specs.declared.fault.TableFault.TheVariants as fault
use Rattle.std.specs.List.Sorted.{IsStrictlySortedBy}
use Rattle.std.proofs.lemmas.List.Elements.{All-nil}
use Rattle.std.proofs.lemmas.List.Sorted.{IsPermutation-refl}
use Rattle.ac_tables.proofs.FirstFailing.{append_none, append_some, told_none, told_some}

some_fails : (p : List ℕ → Bool) (k : TableKind) (names : List Column) → list_any (λ n. p (name_of n)) names ≡ true → first_failing (map (λ n. (p n, k)) (map name_of names)) ≡ Some k
some_fails p k [] h = absurd (cc)
some_fails p k (n ∷ ns) h = elim (cases_Bool (p (name_of n))) [ inl e ↦ rw e refl | inr e ↦ rw e (some_fails p k ns (rw e at h)) ]

none_fails : (p : List ℕ → Bool) (k : TableKind) (names : List Column) → list_any (λ n. p (name_of n)) names ≡ false → first_failing (map (λ n. (p n, k)) (map name_of names)) ≡ None
none_fails p k [] h = refl
none_fails p k (n ∷ ns) h = elim (cases_Bool (p (name_of n))) [ inl e ↦ absurd (cc (rw e at h)) | inr e ↦ rw e (none_fails p k ns (rw e at h)) ]

abbrev missing_checks : List Column → Row → List Check
missing_checks names header = map (λ n. (is_missing header n, kind.MissingColumn)) (map name_of names)

abbrev double_checks : List Column → Row → List Check
double_checks names header = map (λ n. (is_double header n, kind.DoubleColumn)) (map name_of names)

pub lacks : (names : List Column) (header : Row) → list_any (λ n. is_missing header (name_of n)) names ≡ true
    → Some kind.MissingColumn ≡ first_failing (header_checks (map name_of names) header)
unfolding header_checks
lacks names header h =
    sym (append_some (missing_checks names header) (double_checks names header) kind.MissingColumn (some_fails (is_missing header) kind.MissingColumn names h))

pub doubles : (names : List Column) (header : Row) → list_any (λ n. is_missing header (name_of n)) names ≡ false → list_any (λ n. is_double header (name_of n)) names ≡ true
    → Some kind.DoubleColumn ≡ first_failing (header_checks (map name_of names) header)
unfolding header_checks
doubles names header h d =
    sym (append_none (missing_checks names header) (double_checks names header) (none_fails (is_missing header) kind.MissingColumn names h)
    ∙ some_fails (is_double header) kind.DoubleColumn names d)

pub fine : (names : List Column) (header : Row) → list_any (λ n. is_missing header (name_of n)) names ≡ false → list_any (λ n. is_double header (name_of n)) names ≡ false
    → None ≡ first_failing (header_checks (map name_of names) header)
unfolding header_checks
fine names header h d =
    sym (append_none (missing_checks names header) (double_checks names header) (none_fails (is_missing header) kind.MissingColumn names h)
    ∙ none_fails (is_double header) kind.DoubleColumn names d)

no_kind : (o : Option TableKind) (t : Table) (n : ℕ) → told t n o ≡ None → o ≡ None
no_kind None t n e = refl
no_kind (Some k) t n e = absurd (cc)

told_cases : (t : Table) (n : ℕ) (checks : List Check) (rest : List (Bool × TableFault)) (o : Option TableKind) (u : Table) (r : ℕ) (k : TableKind)
    → first_failing checks ≡ o → told t n o ≡ Some (fault.At u r k) → first_failing (told_at t n checks ++ rest) ≡ Some (fault.At u r k)
told_cases t n checks rest None u r k same h = absurd (cc)
told_cases t n checks rest (Some j) u r k same h = told_some t n checks rest j same ∙ h

-- what is wrong with a header, told of a table
pub kind_told : (t : Table) (first : Option TableKind) (e : RecordFault) → TellsKind first e → Tells (told t 1 first) (fault_at t 1 e)
kind_told t first (record_fault.Kind k) h = ap (told t 1) h
kind_told t first record_fault.NoMemory h = tt

-- a fault of the header is the first of the table
pub fault_of_header : {V : Type 0} (t : Table) (names : List (List ℕ)) (value : Row → Row → V) (checks : Row → List V → Row → List Check) (rows : List Row) (e : TableFault)
    → Tells (header_fault t names rows) e → Tells (first_failing (table_checks t names value checks rows)) e
unfolding header_fault header_kind
fault_of_header t names value checks [] e h = h
fault_of_header t names value checks (header ∷ rows) (fault.At u r k) h =
    told_cases t 1 (header_checks names header) (record_checks t (value header) (checks header) [] rows) _ u r k refl h
fault_of_header t names value checks (header ∷ rows) fault.NoMemory h = tt

-- no fault of the header: what is left are the records
pub records_left : {V : Type 0} (t : Table) (names : List (List ℕ)) (value : Row → Row → V) (checks : Row → List V → Row → List Check) (rows rest : List Row) (header : Row)
    → rows ≡ header ∷ rest → header_fault t names rows ≡ None
    → (first_failing (table_checks t names value checks rows) ≡ first_failing (record_checks t (value header) (checks header) [] rest)) × (said_by value rows ≡ map (value header) rest)
unfolding header_fault header_kind
records_left t names value checks rows rest header e h =
    let none : first_failing (header_checks names header) ≡ None = no_kind _ t 1 (rw e at h) in
    (rw e (told_none t 1 (header_checks names header) (record_checks t (value header) (checks header) [] rest) none), ap (said_by value) e)

-- the header of a table that isn't there has no fault
needed_fit : (t : Table) → first_failing (header_checks (names_needed t) (names_needed t)) ≡ None
unfolding header_checks name_of columns_needed
needed_fit table.Providers = refl
needed_fit table.Inventories = refl
needed_fit table.Usages = refl
needed_fit table.Traits = refl
needed_fit table.Aggregates = refl

pub absent_fine : {V : Type 0} (t : Table) (value : Row → Row → V) (checks : Row → List V → Row → List Check)
    → first_failing (table_checks t (names_needed t) value checks (names_needed t ∷ [])) ≡ None
absent_fine t value checks = told_none t 1 (header_checks (names_needed t) (names_needed t)) [] (needed_fit t)

-- no rows show a table without records
pub no_rows : {V K X : Type 0} (cmp : K → K → Ordering) (shown : ℕ → K → X → V) (count : ℕ) (unique : Bool) → IsTable cmp shown count unique [] []
unfolding IsStrictlySortedBy
no_rows {V} {K} {X} cmp shown count unique = record {
  read = [];
  shows = refl;
  same = IsPermutation-refl [];
  order = record { turn = λ place. place; apart = λ p q same. same; sorted = λ k d low below. absurd (omega (arith, below)) };
  inside = All-nil (λ (r : TableRow K X). r.place < count);
  numbered = λ k d below. absurd (omega (arith, below));
  strict = λ is. tt;
}
