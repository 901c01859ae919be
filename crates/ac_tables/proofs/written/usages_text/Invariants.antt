use Rattle.std.proofs.Common.{◌∷◌, take}
use Rattle.std.specs.List.{flat_map}
use Rattle.ac_cloud.specs.Cloud.CloudWorld.{providers_of}
use Rattle.ac_tables.specs.Tables.UsageTable.{usage_columns}
use Rattle.ac_base.specs.Writing.Rows.{HasRows}
use Rattle.ac_tables.specs.UsageRows.{rows_of_provider}
use Rattle.ac_tables.proofs.written.usages_text.Given as goal

abbrev pub invariant-loop-ix : goal.invariant-loop-ix
invariant-loop-ix l = HasRows l.rows (usage_columns ∷ flat_map rows_of_provider (take l.ix (providers_of l.cloud)))
