use Rattle.std.proofs.Common.{map, take}
use Rattle.std.specs.List.{filter}
use Rattle.ac_cloud.specs.Cloud.CloudWorld.{providers_of}
use Rattle.ac_query.specs.Shown.Queries.{asked_of}
use Rattle.ac_rules.specs.Placed.{assigned}
use Rattle.ac_report.specs.ListRows.{provider_row}
use Rattle.ac_base.specs.Writing.Rows.{HasRows}
use Rattle.ac_report.specs.Texts.{shown_providers}
use Rattle.ac_report.specs.Trees.{gives}
use Rattle.ac_report.proofs.list_rows.block_text.Given as goal

abbrev pub invariant-loop-provider : goal.invariant-loop-provider
invariant-loop-provider l =
    let xs = assigned (asked_of l.listed.query.now) l.listed.list.now in
    let row = provider_row (shown_providers l.listed.traits (providers_of l.listed.cloud.now)) xs l.listed.number in
    HasRows l.rows (map row (filter (λ ix. gives xs ix) (take l.provider-index l.provider-items)))
