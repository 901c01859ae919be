use Rattle.std.proofs.Common.{◌≡◌, ◌<◌, ◌≤◌, List, [], ◌∷◌, IfOk, length, arith, subst}
use Rattle.std.specs.List.{flat_map}
use Rattle.std.proofs.Math.Seq.{take_all}
use Rattle.csv.specs.Writing.{default_writer, row_text}
use Rattle.ac_cloud.specs.World.{Provider}
use Rattle.ac_cloud.specs.Cloud.CloudWorld.{providers_of}
use Rattle.ac_tables.specs.Tables.UsageTable.{usage_columns}
use Rattle.ac_base.specs.Writing.Rows.{HasRows}
use Rattle.ac_tables.specs.UsageRows.{rows_of_provider, usages_text}
use Rattle.ac_tables.proofs.UsageRows.Written.{provider_more}
use Rattle.ac_tables.proofs.written.usages_text.Goals as goal

pub loop-ix-preserved : goal.loop-ix-preserved
loop-ix-preserved c =
    let all = providers_of c.args.cloud.now in
    let low : c.loop-ix.ix < length all = omega (arith, c.loop-ix-test.true, c.len-ix-end.ensures) in
    subst (HasRows c.write_provider.new.rows) (provider_more (usage_columns ∷ []) all c.loop-ix.ix low) (c.in_ok-write_provider.ensures _ c.loop-ix.invariant)

pub returns : goal.returns
unfolding usages_text
returns c =
    let all = providers_of c.args.cloud.now in
    let end : length all ≤ c.loop-ix.ix = omega (arith, c.loop-ix-test.false, c.len-ix-end.ensures) in
    subst (λ (l : List Provider). IfOk c.end_rows.result (λ text. text.items ≡ flat_map (row_text default_writer) (usage_columns ∷ flat_map rows_of_provider l))) (take_all c.loop-ix.ix all end)
    (c.end_rows.ensures _ c.loop-ix.invariant)
