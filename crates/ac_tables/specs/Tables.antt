-- The five tables: the first fault of all, and the world that they state where there is none.
pub mod ProviderTable
pub mod InventoryTable
pub mod UsageTable
pub mod TraitTable
pub mod AggregateTable
pub mod Checks
pub mod Names
pub mod Columns
pub mod Rows
use Rattle.std.specs.Prelude.{ℕ, Bool, ◌==◌, List, [], ◌∷◌, ◌++◌, map, length, Option, Some, None}
use Rattle.std.specs.Borrow.{Bor}
use Rattle.std.specs.Option.{option_map, unwrap_or}
use Rattle.std.specs.List.{filter, sum_by}
use Rattle.std.specs.Map.{lookup}
use Rattle.std.specs.Ordering.{nat_cmp}
use Rattle.std.specs.Str.{bytes_eq}
use Rattle.ac_base.specs.Texts.{text_cmp}
use Rattle.ac_base.specs.Quantities.{InventoryNumbers}
use Rattle.ac_tables.specs.Tables.Checks.{Row, first_failing}
use Rattle.ac_tables.specs.Tables.Names.{names_needed}
use Rattle.ac_tables.specs.Tables.Rows.{records_of}
use Rattle.ac_tables.specs.declared.fault.Table.{Table}
use Rattle.ac_base.specs.Sorted.{TextMap, rising, map_of}
use Rattle.ac_tables.specs.Tables.ProviderTable.{providers_said, said_name, said_parent, provider_checks}
use Rattle.ac_tables.specs.Tables.InventoryTable.{InventoryRecord, inventories_said, inventory_checks}
use Rattle.ac_tables.specs.Tables.UsageTable.{UsageRecord, usages_said, usage_checks}
use Rattle.ac_tables.specs.Tables.TraitTable.{TraitRecord, traits_said, trait_checks}
use Rattle.ac_tables.specs.Tables.AggregateTable.{AggregateRecord, aggregates_said, aggregate_checks}
use Rattle.ac_cloud.specs.World.{Provider, World, UsedInventory}
use Rattle.ac_tables.specs.declared.fault.TableFault.{TableFault}

-- the records of the five tables
pub record Tables : Type 0 where
  pub providers : List Row
  pub inventories : List Row
  pub usages : List Row
  pub traits : List Row
  pub aggregates : List Row

-- the records of a table; one that isn't there is its header alone
abbrev pub records_or_header : List (List ℕ) → Option (List ℕ) → List Row
records_or_header names None = names ∷ []
records_or_header names (Some bytes) = records_of bytes

-- the records of one of the tables by its text, where it is there
abbrev pub rows_given : Table → Option (Bor (List ℕ)) → List Row
rows_given t text = records_or_header (names_needed t) (option_map (λ bytes. bytes.now) text)

-- the ids of all providers, rising
unfoldable pub ids_of : List Row → List ℕ
ids_of rows = rising nat_cmp (map (λ p. p.id) (providers_said rows))

-- all checks of all tables, in their order
abbrev pub all_checks : Tables → List (Bool × TableFault)
all_checks t =
    provider_checks t.providers
    ++ inventory_checks (ids_of t.providers) t.inventories
    ++ usage_checks (ids_of t.providers) (inventories_said t.inventories) t.usages
    ++ trait_checks (ids_of t.providers) t.traits
    ++ aggregate_checks (ids_of t.providers) t.aggregates

-- the first fault
unfoldable pub tables_fault : Tables → Option TableFault
tables_fault t = first_failing (all_checks t)

-- what is told of one provider, by class: its inventories, its usages
unfoldable pub inventories_of : List InventoryRecord → ℕ → TextMap InventoryNumbers
inventories_of records id = map_of (map (λ h. (h.class, h.inventory)) (filter (λ h. h.provider == id) records))

unfoldable pub amounts_of : List UsageRecord → ℕ → TextMap ℕ
amounts_of usages id = map_of (map (λ u. (u.class, u.amount)) (filter (λ u. u.provider == id) usages))

-- its traits and its aggregates
unfoldable pub names_of : List TraitRecord → ℕ → List (List ℕ)
names_of marks id = rising text_cmp (map (λ m. m.name) (filter (λ m. m.provider == id) marks))

unfoldable pub aggregates_of : List AggregateRecord → ℕ → List ℕ
aggregates_of records id = rising nat_cmp (map (λ m. m.aggregate) (filter (λ m. m.provider == id) records))

-- inventories beside how much of each is used
abbrev pub with_used : TextMap ℕ → TextMap InventoryNumbers → TextMap UsedInventory
with_used amounts inventories = map (λ e. (e.0, record { inventory = e.1; used = unwrap_or (lookup (bytes_eq e.0) amounts) 0 })) inventories

-- all that the tables say of one provider, gathered from all records at once
abbrev pub gathered : Tables → ℕ → Provider
gathered t id = record {
  id = id;
  name = said_name (providers_said t.providers) id;
  parent = said_parent (providers_said t.providers) id;
  entries = with_used (amounts_of (usages_said t.usages) id) (inventories_of (inventories_said t.inventories) id);
  traits = names_of (traits_said t.traits) id;
  aggregates = aggregates_of (aggregates_said t.aggregates) id;
}

-- the world of the tables; a repeated trait or aggregate of a provider counts once
unfoldable pub world_stated : Tables → World
world_stated t = record {
  providers = map (gathered t) (ids_of t.providers);
  sizes = record {
    providers = length (ids_of t.providers);
    inventories = length (inventories_said t.inventories);
    usages = length (usages_said t.usages);
    traits = sum_by (λ id. length (names_of (traits_said t.traits) id)) (ids_of t.providers);
    aggregates = sum_by (λ id. length (aggregates_of (aggregates_said t.aggregates) id)) (ids_of t.providers);
  };
}
