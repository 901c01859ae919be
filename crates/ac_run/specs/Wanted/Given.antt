-- What a run is given: the records of its tables, and what is wrong with a token.
use Rattle.std.specs.Prelude.{ℕ, List, Option, Some, None}
use Rattle.ac_query.specs.Asked.{Asked}
use Rattle.ac_query.specs.Tokens.{token_fault}
use Rattle.ac_query.specs.declared.token.TokenFault.{TokenFault}
use Rattle.ac_run.specs.Feeds.{Bytes}
use Rattle.ac_tables.specs.Tables.{Tables, records_or_header}
use Rattle.ac_tables.specs.Tables.AggregateTable.{aggregate_columns}
use Rattle.ac_tables.specs.Tables.Rows.{records_of}
use Rattle.ac_tables.specs.Tables.TraitTable.{trait_columns}
use Rattle.ac_tables.specs.Tables.UsageTable.{usage_columns}

-- the records of five tables; one that isn't there is its header alone
abbrev pub tables_in : Bytes → Tables
tables_in b = record {
  providers = records_of b.providers;
  inventories = records_of b.inventories;
  usages = records_or_header usage_columns b.usages;
  traits = records_or_header trait_columns b.traits;
  aggregates = records_or_header aggregate_columns b.aggregates;
}

-- what is wrong with a token, where there is one
abbrev pub token_refusal : Asked → Option (List ℕ) → Option TokenFault
token_refusal asked None = None
token_refusal asked (Some text) = token_fault asked text
