-- The rows of the table of providers in the order of their ids.
use Rattle.std.specs.Prelude.{◌<◌, ◌≤◌, ◌^◌, ℕ, Bool, true, false, List, length, get_or, Option}
use Rattle.std.specs.List.{All}
use Rattle.std.specs.Ordering.{nat_cmp}
use Rattle.ac_tables.specs.Tables.ProviderTable.{ProviderRecord}
use Rattle.ac_tables.specs.Reader.ProviderLaws.{provider_shown}
use Rattle.ac_tables.specs.Reader.TableRows.{IsLeastBelow, IsTable}
use Rattle.ac_tables.specs.declared.reader.row.TableRow.{TableRow}
use Rattle.ac_tables.specs.declared.tables.provider_record.Named.{Named}

-- They show what the table says, of which all ids fit, and are not too many.
pub record IsListing (said : List ProviderRecord) (rows : List (TableRow ℕ Named)) : Type 0 where
  pub table : IsTable nat_cmp provider_shown 1 true said rows
  pub fit : All (λ p. p.id < 2 ^ 128) said
  pub few : length rows ≤ 65536

-- the least record of a marked row
abbrev pub IsFirst : List (TableRow ℕ Named) → List Bool → Option ℕ → Type 0
IsFirst rows marks first = IsLeastBelow (λ k (d : TableRow ℕ Named). get_or marks k false) (λ k d. (get_or rows k d).number) (length rows) first
