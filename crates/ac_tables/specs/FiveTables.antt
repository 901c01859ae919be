-- What stands for each of the five tables.
use Rattle.std.specs.Prelude.{⊤, None, Option, Some}
use Rattle.ac_tables.specs.declared.fault.Table.{Table}
use Rattle.ac_tables.specs.declared.fault.Table.TheVariants as table
use Rattle.ac_tables.specs.declared.read.FiveTables.{FiveTables}

-- what stands for a table; three of them may not be there
abbrev pub table_in : {T : Type 0} → FiveTables T → Table → Option T
table_in s table.Providers = Some s.providers
table_in s table.Inventories = Some s.inventories
table_in s table.Usages = s.usages
table_in s table.Traits = s.traits
table_in s table.Aggregates = s.aggregates

-- a function gives one of the other, where it is there
abbrev pub IsMapped : {T U : Type 0} → (T → U → Type 0) → Option T → Option U → Type 0
IsMapped gives None None = ⊤
IsMapped gives (Some from) (Some to) = gives from to
IsMapped gives _ _ = ⊥

-- it gives what stands for each table of what stood for it
pub record AreMapped {T U : Type 0} (gives : T → U → Type 0) (from : FiveTables T) (to : FiveTables U) : Type 0 where
  pub providers : gives from.providers to.providers
  pub inventories : gives from.inventories to.inventories
  pub usages : IsMapped gives from.usages to.usages
  pub traits : IsMapped gives from.traits to.traits
  pub aggregates : IsMapped gives from.aggregates to.aggregates
