-- The texts of the tables.
use denote.Ref.{Bor}
use Rattle.std.specs.Prelude.{◌≤◌, ℕ, List, length, IfSome}
use Rattle.ac_tables.specs.Drain.{most_bytes}
use Rattle.ac_tables.specs.Tables.Rows.{records_of}
use Rattle.ac_tables.specs.Tables.{Tables, rows_given}
use Rattle.ac_tables.specs.declared.fault.Table.TheVariants as table
use Rattle.ac_tables.specs.declared.read.FiveTables.{FiveTables}

-- the records of the tables; one that isn't there is its header alone
abbrev pub tables_of : FiveTables (Bor (List ℕ)) → Tables
tables_of s = record {
  providers = records_of s.providers.now;
  inventories = records_of s.inventories.now;
  usages = rows_given table.Usages s.usages;
  traits = rows_given table.Traits s.traits;
  aggregates = rows_given table.Aggregates s.aggregates;
}

-- no text has more bytes than a table may have
pub record AreFew (s : FiveTables (Bor (List ℕ))) : Type 0 where
  pub providers : length s.providers.now ≤ most_bytes
  pub inventories : length s.inventories.now ≤ most_bytes
  pub usages : IfSome s.usages (λ t. length t.now ≤ most_bytes)
  pub traits : IfSome s.traits (λ t. length t.now ≤ most_bytes)
  pub aggregates : IfSome s.aggregates (λ t. length t.now ≤ most_bytes)
