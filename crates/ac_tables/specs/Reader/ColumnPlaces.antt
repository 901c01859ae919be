-- Where the columns of each table stand in a header.
use Rattle.std.specs.Prelude.{ℕ, List}
use Rattle.std.specs.Option.{unwrap_or}
use Rattle.ac_tables.specs.Tables.Checks.{Row}
use Rattle.ac_tables.specs.Tables.Columns.{column}
use Rattle.ac_tables.specs.Tables.ProviderTable.{uuid_name, root_name, parent_name, name_name}
use Rattle.ac_tables.specs.Tables.InventoryTable.{provider_name, class_name, total_name, reserved_name, min_unit_name, max_unit_name, step_size_name, ratio_name}
use Rattle.ac_tables.specs.Tables.UsageTable.{usage_name}
use Rattle.ac_tables.specs.declared.tables.usages.UsageColumns.{UsageColumns}
use Rattle.ac_tables.specs.declared.tables.traits.TraitColumns.{TraitColumns}
use Rattle.ac_tables.specs.declared.tables.aggregates.AggregateColumns.{AggregateColumns}
use Rattle.ac_tables.specs.declared.tables.inventories.InventoryColumns.{InventoryColumns}
use Rattle.ac_tables.specs.declared.tables.provider_record.ProviderColumns.{ProviderColumns}

-- the place of a column that is there
abbrev pub place_in : Row → List ℕ → ℕ
place_in header name = unwrap_or (column header name) 0

unfoldable pub provider_places : Row → ProviderColumns
provider_places header = record { id = place_in header uuid_name; root = place_in header root_name; parent = place_in header parent_name; name = column header name_name }

unfoldable pub inventory_places : Row → InventoryColumns
inventory_places header = record {
  provider = place_in header provider_name;
  class = place_in header class_name;
  total = place_in header total_name;
  reserved = place_in header reserved_name;
  min_unit = place_in header min_unit_name;
  max_unit = place_in header max_unit_name;
  step_size = place_in header step_size_name;
  ratio = place_in header ratio_name;
}

unfoldable pub usage_places : Row → UsageColumns
usage_places header = record { provider = place_in header provider_name; class = place_in header class_name; amount = place_in header usage_name }

unfoldable pub trait_places : Row → TraitColumns
trait_places header = record { provider = place_in header provider_name; name = place_in header name_name }

unfoldable pub aggregate_places : Row → AggregateColumns
aggregate_places header = record { provider = place_in header provider_name; aggregate = place_in header uuid_name }
