-- A table as one flat list of rows.
use Rattle.std.specs.Prelude.{◌≡◌, ⊤, ℕ, ◌+◌, ◌-◌, ◌<◌, ◌≤◌, ◌≢◌, Bool, true, false, nat_lt, List, [], ◌∷◌, ◌++◌, map, length, min, get_or, slice_index_or, Option, Some, None, Result, Ok, Err}
use Rattle.std.specs.List.{All, list_any}
use Rattle.std.specs.Ordering.{nat_cmp, ordering_then, is_lt, is_eq}
use Rattle.std.specs.declared.cmp.Ordering.{Ordering}
use Rattle.ac_tables.specs.Tables.Checks.{Row, Check, first_failing}
use Rattle.std.specs.List.Sorted.{IsPermutation, IsSortedBy, IsSortedWithin, IsStrictlySortedBy}
use Rattle.ac_tables.specs.declared.fault.TableKind.{TableKind}
use Rattle.ac_tables.specs.declared.fault.RecordFault.{RecordFault}
use Rattle.ac_tables.specs.declared.fault.RecordFault.TheVariants as record_fault
use Rattle.ac_tables.specs.declared.fault.TableKind.TheVariants as kind
use Rattle.ac_tables.specs.declared.reader.row.TableRow.{TableRow}
use Rattle.ac_tables.specs.declared.reader.provider_rows.Span.{Span}

-- how rows stand to each other, by provider and key
abbrev pub row_cmp : {K X : Type 0} → (K → K → Ordering) → TableRow K X → TableRow K X → Ordering
row_cmp cmp a b = ordering_then (nat_cmp a.place b.place) (cmp a.key b.key)

-- two rows are of one provider and key
abbrev pub row_ties : {K X : Type 0} → (K → K → Ordering) → TableRow K X → TableRow K X → Bool
row_ties cmp a b = is_eq (row_cmp cmp a b)

-- rows go by provider and key, and those that tie by their records
abbrev pub whole_lt : {K X : Type 0} → (K → K → Ordering) → TableRow K X → TableRow K X → Bool
whole_lt cmp a b = is_lt (ordering_then (row_cmp cmp a b) (nat_cmp a.number b.number))

-- how rows stand to each other, by provider and key, where providers come in these turns
abbrev pub turned_cmp : {K X : Type 0} → (ℕ → ℕ) → (K → K → Ordering) → TableRow K X → TableRow K X → Ordering
turned_cmp turn cmp a b = ordering_then (nat_cmp (turn a.place) (turn b.place)) (cmp a.key b.key)

-- The rows of one provider stand behind those of another, whichever comes first, and those of each in the order of their keys.
pub record IsInOrder {K X : Type 0} (cmp : K → K → Ordering) (rows : List (TableRow K X)) : Type 0 where
  pub turn : ℕ → ℕ
  pub apart : (p q : ℕ) → turn p ≡ turn q → p ≡ q
  pub sorted : IsSortedBy (λ a b. is_lt (turned_cmp turn cmp a b)) rows

-- the rows of each provider stand side by side
abbrev pub IsGrouped : {K X : Type 0} → List (TableRow K X) → Type 0
IsGrouped {K} {X} rows = (i j k : ℕ) (d : TableRow K X) → i ≤ j → j ≤ k → k < length rows → (slice_index_or rows i d).place ≡ (slice_index_or rows k d).place
    → (slice_index_or rows j d).place ≡ (slice_index_or rows i d).place

-- neighbours of one provider stand in order
abbrev pub AreRunsSorted : {K X : Type 0} → (TableRow K X → TableRow K X → Bool) → List (TableRow K X) → Type 0
AreRunsSorted {K} {X} lt rows = (k : ℕ) (d : TableRow K X) → k + 1 < length rows → (slice_index_or rows k d).place ≡ (slice_index_or rows (k + 1) d).place
    → lt (slice_index_or rows (k + 1) d) (slice_index_or rows k d) ≡ false

-- the rows from one place up to another are of one provider
abbrev pub IsRun : {K X : Type 0} → List (TableRow K X) → ℕ → ℕ → Type 0
IsRun {K} {X} rows from end = (k : ℕ) (d : TableRow K X) → from ≤ k → k < end → (slice_index_or rows k d).place ≡ (slice_index_or rows from d).place

-- The same rows, of which those from one place up to another are put in order; the others stay where they are. If the former were of one provider,
-- they are.
pub record IsPartSorted {K X : Type 0} (cmp : K → K → Ordering) (from end : ℕ) (before after : List (TableRow K X)) : Type 0 where
  pub same : IsPermutation before after
  pub below : (k : ℕ) (d : TableRow K X) → k < from → slice_index_or after k d ≡ slice_index_or before k d
  pub above : (k : ℕ) (d : TableRow K X) → end ≤ k → slice_index_or after k d ≡ slice_index_or before k d
  pub places : (p : ℕ) (d : TableRow K X) → ((k : ℕ) → from ≤ k → k < end → (slice_index_or before k d).place ≡ p)
      → (k : ℕ) → from ≤ k → k < end → (slice_index_or after k d).place ≡ p
  pub sorted : IsSortedWithin (whole_lt cmp) after from end

-- neighbours that tie stand in the order of their numbers
abbrev pub AreTiesRising : {X : Type 0} → (X → X → Bool) → (X → ℕ) → List X → Type 0
AreTiesRising {X} same number xs = (k : ℕ) (d : X) → k + 1 < length xs → same (slice_index_or xs k d) (slice_index_or xs (k + 1) d) ≡ true
    → number (slice_index_or xs k d) ≤ number (slice_index_or xs (k + 1) d)

-- the least number of the marked places below a bound; what holds of a place is read of a list, whatever its default
abbrev pub IsLeastBelow : {X : Type 0} → (ℕ → X → Bool) → (ℕ → X → ℕ) → ℕ → Option ℕ → Type 0
IsLeastBelow {X} marked number high None = (k : ℕ) (d : X) → k < high → marked k d ≡ false
IsLeastBelow {X} marked number high (Some n) =
    ((k : ℕ) (d : X) → k < high → marked k d ≡ true → n ≤ number k d) × ((k : ℕ) × (k < high) × ((d : X) → (marked k d ≡ true) × (number k d ≡ n)))

-- the least number of an item that ties with the one before it
abbrev pub IsLeast : {X : Type 0} → (X → X → Bool) → (X → ℕ) → List X → Option ℕ → Type 0
IsLeast same number xs first =
    IsLeastBelow (λ k d. same (slice_index_or xs k d) (slice_index_or xs (k + 1) d)) (λ k d. number (slice_index_or xs (k + 1) d)) (length xs - 1) first

-- the sooner of two records
abbrev pub sooner : Option ℕ → ℕ → Option ℕ
sooner None n = Some n
sooner (Some m) n = Some (min m n)

abbrev pub IsLeastRepeat : {K X : Type 0} → (K → K → Ordering) → List (TableRow K X) → Option ℕ → Type 0
IsLeastRepeat {K} {X} cmp rows first = IsLeast (row_ties cmp) (λ (r : TableRow K X). r.number) rows first

-- so many records are more than a table may have
abbrev pub is_past : Option ℕ → ℕ → Bool
is_past None count = false
is_past (Some most) count = nat_lt most count

-- How reading ended: no record is left, or those that were read are too many; the next record has this fault of its own; a growth was refused.
abbrev pub Stops : (Row → List Check) → Bool → List Row → Result (Unit {0}) RecordFault → Type 0
Stops alone past [] (Ok _) = ⊤
Stops alone past (row ∷ rows) (Ok _) = past ≡ true
Stops alone past [] (Err (record_fault.Kind kind)) = ⊥
Stops alone past (row ∷ rows) (Err (record_fault.Kind kind)) = first_failing (alone row) ≡ Some kind
Stops alone past left (Err record_fault.NoMemory) = ⊤

-- what a row shows
abbrev pub row_shown : {V K X : Type 0} → (ℕ → K → X → V) → TableRow K X → V
row_shown shown r = shown r.place r.key r.value

-- some records were read and have no fault of their own; the others are left
pub record IsReadSoFar {V K X : Type 0} (says : Row → V) (alone : Row → List Check) (shown : ℕ → K → X → V) (count : ℕ) (most : Option ℕ) (all left : List Row) (number : ℕ) (rows : List (TableRow K X)) : Type 0 where
  pub done : List Row
  pub whole : all ≡ done ++ left
  pub said : map (row_shown shown) rows ≡ map says done
  pub fine : All (λ row. first_failing (alone row) ≡ None) done
  pub numbered : (k : ℕ) (d : TableRow K X) → k < length rows → (get_or rows k d).number ≡ k + 2
  pub inside : (k : ℕ) (d : TableRow K X) → k < length rows → (get_or rows k d).place < count
  pub counted : number ≡ length done + 2
  pub within : (n : ℕ) → n < length rows → is_past most n ≡ false

-- records were read up to the end, or to what ended reading before it
pub record IsReadUpTo {V K X : Type 0} (says : Row → V) (alone : Row → List Check) (shown : ℕ → K → X → V) (count : ℕ) (most : Option ℕ) (all : List Row) (rows : List (TableRow K X)) (ended : Result (Unit {0}) RecordFault) : Type 0 where
  pub left : List Row
  pub number : ℕ
  pub so_far : IsReadSoFar says alone shown count most all left number rows
  pub stopped : Stops alone (is_past most (length rows)) left ended

-- A record's checks are those that it has alone, then that no record before it has its key, then that it isn't one too many.
pub record IsKeyed {V : Type 0} (most : Option ℕ) (says : Row → V) (checks : List V → Row → List Check) (alone : Row → List Check) (same : V → V → Bool) : Type 0 where
  pub fresh : (before : List V) (row : Row) → list_any (same (says row)) before ≡ false → is_past most (length before + 1) ≡ false
      → first_failing (checks before row) ≡ first_failing (alone row)
  pub again : (before : List V) (row : Row) → first_failing (alone row) ≡ None → list_any (same (says row)) before ≡ true → first_failing (checks before row) ≡ Some kind.Duplicate
  pub first : (before : List Row) (row : Row) (k : TableKind) → All (λ r. first_failing (alone r) ≡ None) before → first_failing (alone row) ≡ Some k
      → first_failing (checks (map says before) row) ≡ Some k
  pub full : (before : List V) (row : Row) → first_failing (alone row) ≡ None → list_any (same (says row)) before ≡ false → is_past most (length before + 1) ≡ true
      → first_failing (checks before row) ≡ Some kind.TooManyProviders

-- the rows of a table in order; they show what its records say
pub record IsTable {V K X : Type 0} (cmp : K → K → Ordering) (shown : ℕ → K → X → V) (count : ℕ) (unique : Bool) (said : List V) (rows : List (TableRow K X)) : Type 0 where
  pub read : List (TableRow K X)
  pub shows : map (row_shown shown) read ≡ said
  pub same : IsPermutation read rows
  pub order : IsInOrder cmp rows
  pub inside : All (λ r. r.place < count) rows
  pub numbered : (k : ℕ) (d : TableRow K X) → k < length read → (get_or read k d).number ≡ k + 2
  pub strict : unique ≡ true → IsStrictlySortedBy (turned_cmp order.turn cmp) rows

-- the rows of a provider stand from one place up to another, and nowhere else
pub record IsSpan {K X : Type 0} (rows : List (TableRow K X)) (place from end : ℕ) : Type 0 where
  pub order : from ≤ end
  pub inside : end ≤ length rows
  pub own : (k : ℕ) (d : TableRow K X) → from ≤ k → k < end → (slice_index_or rows k d).place ≡ place
  pub below : (k : ℕ) (d : TableRow K X) → k < from → (slice_index_or rows k d).place ≢ place
  pub above : (k : ℕ) (d : TableRow K X) → end ≤ k → k < length rows → (slice_index_or rows k d).place ≢ place

-- where the rows of each provider stand
abbrev pub AreSpans : {K X : Type 0} → List (TableRow K X) → List Span → Type 0
AreSpans rows spans = (p : ℕ) (d : Span) → p < length spans → IsSpan rows p (slice_index_or spans p d).from (slice_index_or spans p d).end
