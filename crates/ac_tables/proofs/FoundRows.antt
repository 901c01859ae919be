-- The record of a number, by the rows that are left behind those before it.
use Rattle.ac_tables.proofs.Common.{◌≡◌, ℕ, suc, zero, Bool, true, false, List, Option, None, Some, refl, Bor, Row, Table}
use Rattle.std.specs.List.{slice_get}
use Rattle.ac_tables.specs.FiveTables.{table_in}
use Rattle.ac_tables.specs.Found.{records_in}
use Rattle.ac_tables.specs.Source.{tables_of}
use Rattle.ac_tables.specs.Tables.{rows_given}
use Rattle.ac_tables.specs.Tables.Rows.{Gives}
use Rattle.ac_tables.specs.declared.fault.Table.TheVariants as table
use Rattle.ac_tables.specs.declared.read.FiveTables.{FiveTables}

-- a read where these rows were left
module _ (left : List Row) (row : Row) (after : List Row) where
  pub row_first : (found : Bool) → Gives left found row after → found ≡ true → slice_get left zero ≡ Some row
  row_first true gives e = rw gives refl
  row_first false gives e = absurd (cc)

  pub row_behind : (found : Bool) (k : ℕ) → Gives left found row after → found ≡ true → slice_get left (suc k) ≡ slice_get after k
  row_behind true k gives e = rw gives refl
  row_behind false k gives e = absurd (cc)

  pub row_none : (found : Bool) (k : ℕ) → Gives left found row after → found ≡ false → ◌≡◌ {A = Option Row} (slice_get left k) None
  row_none true k gives e = absurd (cc)
  row_none false k gives e = rw gives refl

-- the records of a table by its text, where it is there
pub source_rows : (s : FiveTables (Bor (List ℕ))) (t : Table) → records_in (tables_of s) t ≡ rows_given t (table_in s t)
unfolding records_in
source_rows s table.Providers = refl
source_rows s table.Inventories = refl
source_rows s table.Usages = refl
source_rows s table.Traits = refl
source_rows s table.Aggregates = refl
