use Rattle.std.proofs.Common.{take}
use Rattle.std.specs.List.{All}
use Rattle.ac_query.specs.Shown.Queries.{asked_of}
use Rattle.ac_cloud.specs.Cloud.CloudWorld.{providers_of}
use Rattle.ac_report.specs.Pages.{IsAssignment}
use Rattle.ac_search_tests.proofs.report.are_assignments.Given as goal

abbrev pub invariant-loop-list : goal.invariant-loop-list
invariant-loop-list l = All (λ list. IsAssignment (providers_of l.cloud) (asked_of l.query) list.now) (take l.list-index l.lists)
