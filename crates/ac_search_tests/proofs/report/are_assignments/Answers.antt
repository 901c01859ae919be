use Rattle.std.proofs.Common.{◌≤◌, length, subst, arith}
use Rattle.std.specs.List.{All}
use Rattle.std.proofs.lemmas.Bool.{OnTrue_at}
use Rattle.std.proofs.lemmas.List.{take_all}
use Rattle.std.proofs.lemmas.List.Elements.{All-map, All-more}
use Rattle.ac_query.specs.Shown.Queries.{asked_of}
use Rattle.ac_cloud.specs.Cloud.CloudWorld.{providers_of}
use Rattle.ac_report.specs.Pages.{IsAssignment}
use Rattle.ac_search_tests.proofs.report.are_assignments.Goals as goal

pub loop-list-preserved : goal.loop-list-preserved
loop-list-preserved c =
    let P = IsAssignment (providers_of c.args.cloud.now) (asked_of c.args.query.now) in
    All-more (λ list. P list.now) c.args.lists.now c.loop-list.list-index _ (search arith) c.loop-list.invariant (OnTrue_at c.if-not-is_assignment.false c.is_assignment.ensures)

pub returns : goal.returns
returns c =
    let P = IsAssignment (providers_of c.args.cloud.now) (asked_of c.args.query.now) in
    let lists = c.args.lists.now in
    let end : length lists ≤ c.loop-list.list-index = search arith in
    All-map P (λ list. list.now) lists (subst (All (λ list. P list.now)) (take_all c.loop-list.list-index lists end) c.loop-list.invariant)
