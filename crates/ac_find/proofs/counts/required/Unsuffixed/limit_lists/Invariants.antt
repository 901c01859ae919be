use Rattle.std.proofs.Common.{map, take}
use Rattle.std.specs.List.{list_all}
use Rattle.ac_query.specs.Shown.Groups.{any_of_shown}
use Rattle.ac_query.specs.Shown.Queries.{asked_of}
use Rattle.ac_cloud.specs.Cloud.CloudWorld.{providers_of}
use Rattle.ac_find.specs.Explained.{is_one_held}
use Rattle.ac_find.specs.Shown.Explained.{AreKept}
use Rattle.ac_find.proofs.counts.required.Unsuffixed.limit_lists.Given as goal

abbrev pub invariant-loop-list : goal.invariant-loop-list
invariant-loop-list l =
    let all = providers_of l.self.cloud.now in
    AreKept all (λ r. list_all (λ names. is_one_held all (asked_of l.self.query.now) r names) (map any_of_shown (take l.list-index l.lists))) l.fn.marks l.marks
