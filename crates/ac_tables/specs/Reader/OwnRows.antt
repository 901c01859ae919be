-- The rows of each provider.
use Rattle.std.specs.Prelude.{List, length, map, ◌==◌}
use Rattle.std.specs.List.{filter, range_with_len}
use Rattle.ac_tables.specs.declared.reader.row.TableRow.{TableRow}
use Rattle.ac_tables.specs.declared.reader.provider_rows.ProviderRows.{ProviderRows}

abbrev pub own_rows : {K X : Type 0} → ProviderRows K X → List (List (TableRow K X))
own_rows own = map (λ p. filter (λ r. r.place == p) own.rows.items) (range_with_len 0 (length own.spans.items))
