use Rattle.std.proofs.Common.{List, ℕ, Option, true, ap}
use Rattle.std.specs.List.{flat_map}
use Rattle.ac_cloud.specs.Cloud.CloudWorld.{providers_of}
use Rattle.ac_query.specs.Asked.{Group}
use Rattle.ac_report.specs.Findings.Explanation.Nobody.{group_missed, nobody_lines, missed_by}
use Rattle.ac_report.proofs.FoundTexts.Begun.{pushed_behind}
use Rattle.ac_report.proofs.findings.explanation.nobody.push_missing.Goals as goal

pub returns : goal.returns
unfolding nobody_lines
returns g c =
    let all = providers_of c.args.cloud.now in
    pushed_behind (ap (flat_map (λ (e : Option (List ℕ) × Group). group_missed all e.1)) c.groups.ensures.groups)
    (ap (flat_map (missed_by true all)) c.root_required.ensures.names) c.in_ok-push_groups.ensures c.push_traits.ensures
