use Rattle.std.proofs.Common.{◌∙◌, None, subst, sym}
use Rattle.std.specs.List.{All}
use Rattle.ac_cloud.specs.Cloud.CloudWorld.{providers_of}
use Rattle.ac_query.specs.Shown.Queries.{asked_of}
use Rattle.ac_report.specs.Pages.{IsAssignment}
use Rattle.ac_run.proofs.Assignments.{assignments}
use Rattle.ac_run.proofs.capacity.placements.walk_all.Goals as goal

pub returns-clause-assigned : goal.returns-clause-assigned
returns-clause-assigned c =
    let Assigned = All (IsAssignment (providers_of c.args.cloud.now) (asked_of c.args.query.now)) in
    subst Assigned (sym (c.within.ensures.left ∙ c.in_ok-new.ensures.left)) (assignments _ _ None)
