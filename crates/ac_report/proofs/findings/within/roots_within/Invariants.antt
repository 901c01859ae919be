use Rattle.std.proofs.Common.{◌≡◌, ◌&&◌}
use Rattle.std.specs.List.{filter, range_with_len}
use Rattle.ac_cloud.specs.World.{id_at, is_root}
use Rattle.ac_cloud.specs.Cloud.CloudWorld.{providers_of}
use Rattle.ac_report.specs.Findings.HostRows.{is_within}
use Rattle.ac_report.proofs.findings.within.roots_within.Given as goal

abbrev pub invariant-loop-root : goal.invariant-loop-root
invariant-loop-root l =
    let all = providers_of l.cloud in
    l.roots.items ≡ filter (λ r. is_root all (id_at all r) && is_within all l.fn.within r) (range_with_len 0 l.root)
