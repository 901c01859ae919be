-- The table of aggregates.
use Rattle.std.specs.Prelude.{Option, ℕ, Bool, List, [], ◌∷◌, ◌++◌}
use Rattle.ac_tables.specs.Tables.Checks.{Row, Check, first_failing}
use Rattle.ac_tables.specs.Tables.Columns.{table_checks, said_by, id_in, bad_id}
use Rattle.ac_tables.specs.Tables.ProviderTable.{uuid_name}
use Rattle.ac_tables.specs.Tables.InventoryTable.{provider_name, owner_checks, known_checks}
use Rattle.ac_tables.specs.Tables.Names.{names_needed}
use Rattle.ac_tables.specs.declared.fault.Table.TheVariants as table
use Rattle.ac_tables.specs.declared.fault.TableFault.{TableFault}

-- what a record says: a provider belongs to an aggregate
pub record AggregateRecord : Type 0 where
  pub provider : ℕ
  pub aggregate : ℕ

-- the needed columns, in the order in which they are checked
abbrev pub aggregate_columns : List (List ℕ)
aggregate_columns = names_needed table.Aggregates

-- what a record says
unfoldable pub aggregate_said : Row → Row → AggregateRecord
aggregate_said header row = record { provider = id_in header provider_name row; aggregate = id_in header uuid_name row }

-- the checks of a record's fields
unfoldable pub aggregate_field_checks : Row → Row → List Check
aggregate_field_checks header row = owner_checks header row ++ bad_id header uuid_name row ∷ []

-- the checks of a record, where these are the ids of all providers; a repeated one is none
unfoldable pub aggregate_record_checks : List ℕ → Row → List AggregateRecord → Row → List Check
aggregate_record_checks ids header before row =
    aggregate_field_checks header row ++ known_checks ids (id_in header provider_name row)

-- all that the table says, in the order of its records
abbrev pub aggregates_said : List Row → List AggregateRecord
aggregates_said rows = said_by aggregate_said rows

-- all checks of the table
abbrev pub aggregate_checks : List ℕ → List Row → List (Bool × TableFault)
aggregate_checks ids rows = table_checks table.Aggregates aggregate_columns aggregate_said (aggregate_record_checks ids) rows

-- the first fault of the table
unfoldable pub aggregates_fault : List ℕ → List Row → Option TableFault
aggregates_fault ids rows = first_failing (aggregate_checks ids rows)
