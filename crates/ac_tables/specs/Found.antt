-- A record of a table beside its header.
use Rattle.std.specs.Prelude.{ℕ, ◌-◌, List, Option}
use Rattle.std.specs.List.{slice_get}
use Rattle.std.specs.Option.{option_and_then, option_map}
use Rattle.csv.specs.Records.{fields_of}
use Rattle.ac_tables.specs.Tables.{Tables}
use Rattle.ac_tables.specs.Tables.Checks.{Row}
use Rattle.ac_tables.specs.declared.fault.Table.{Table}
use Rattle.ac_tables.specs.declared.fault.Table.TheVariants as table
use Rattle.ac_tables.specs.declared.found.Found.{Found}

-- the records of one of the tables
unfoldable pub records_in : Tables → Table → List Row
records_in t table.Providers = t.providers
records_in t table.Inventories = t.inventories
records_in t table.Usages = t.usages
records_in t table.Traits = t.traits
records_in t table.Aggregates = t.aggregates

-- records are numbered from 1
abbrev pub row_at : List Row → ℕ → Option Row
row_at rows n = slice_get rows (n - 1)

-- the header and the record of this number, where there are both
abbrev pub beside_header : List Row → ℕ → Option (Row × Row)
beside_header rows n = option_and_then (λ header. option_map (λ row. (header, row)) (row_at rows n)) (row_at rows 1)

-- the fields of both
abbrev pub fields_found : Found → Row × Row
fields_found found = (fields_of found.header, fields_of found.row)
