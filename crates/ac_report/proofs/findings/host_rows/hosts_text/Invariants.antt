use Rattle.std.proofs.Common.{◌∷◌, map, take}
use Rattle.ac_cloud.specs.Cloud.CloudWorld.{providers_of}
use Rattle.ac_query.specs.Shown.Queries.{asked_of}
use Rattle.ac_report.specs.Findings.HostRows.{host_columns, host_row}
use Rattle.ac_base.specs.Writing.Rows.{HasRows}
use Rattle.ac_report.proofs.findings.host_rows.hosts_text.Given as goal

abbrev pub invariant-loop-root : goal.invariant-loop-root
invariant-loop-root l = HasRows l.rows (host_columns ∷ map (host_row (providers_of l.cloud) (asked_of l.query)) (take l.root-index l.root-items))
