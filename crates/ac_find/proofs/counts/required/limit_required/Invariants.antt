use Rattle.std.proofs.Common.{◌||◌, List, ℕ, Option, map, take}
use Rattle.std.specs.List.{list_all}
use Rattle.std.specs.Option.{is_some}
use Rattle.ac_query.specs.Asked.{Group}
use Rattle.ac_query.specs.Shown.Groups.{group_entry}
use Rattle.ac_query.specs.Shown.Queries.{asked_of}
use Rattle.ac_cloud.specs.Cloud.CloudWorld.{providers_of}
use Rattle.ac_find.specs.Explained.{are_held}
use Rattle.ac_find.specs.Shown.Explained.{AreKept}
use Rattle.ac_find.proofs.counts.required.limit_required.Given as goal

abbrev pub invariant-loop-group : goal.invariant-loop-group
invariant-loop-group l =
    let all = providers_of l.cloud in
    let held = λ (r : ℕ) (g : Option (List ℕ) × Group). is_some g.0 || are_held all (asked_of l.query) r g.1 in
    AreKept all (λ r. list_all (held r) (map group_entry (take l.group-index l.group-items))) l.fn.marks l.marks
