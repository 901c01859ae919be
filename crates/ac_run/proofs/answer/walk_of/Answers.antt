use Rattle.std.proofs.Common.{◌∙◌, subst, sym}
use Rattle.std.specs.List.{All}
use Rattle.ac_cloud.specs.Cloud.CloudWorld.{providers_of}
use Rattle.ac_query.specs.Shown.Queries.{asked_of}
use Rattle.ac_report.specs.Pages.{IsAssignment}
use Rattle.ac_run.proofs.Assignments.{assignments_at}
use Rattle.ac_run.proofs.answer.walk_of.Goals as goal

pub returns-clause-assigned : goal.returns-clause-assigned
returns-clause-assigned c =
    let Assigned = All (IsAssignment (providers_of c.args.cloud.now) (asked_of c.args.page.now.query)) in
    subst Assigned (sym (c.within.ensures.left ∙ c.in_ok-walk.ensures.left)) (assignments_at _ _ _ _)
