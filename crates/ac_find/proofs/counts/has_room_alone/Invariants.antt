use Rattle.std.proofs.Common.{◌≡◌, ℕ, List, map, drop}
use Rattle.std.specs.List.{list_all}
use Rattle.ac_cloud.specs.World.{provider_at}
use Rattle.ac_query.specs.Shown.Groups.{need_entry}
use Rattle.ac_cloud.specs.Cloud.CloudWorld.{providers_of}
use Rattle.ac_rules.specs.Together.{holds}
use Rattle.ac_find.proofs.counts.has_room_alone.Given as goal

abbrev pub invariant-loop-need : goal.invariant-loop-need
invariant-loop-need l =
    let fits = λ (need : List ℕ × ℕ). holds (provider_at (providers_of l.placed.cloud.now) l.placed.provider) need.0 need.1 in
    list_all fits (map need_entry (drop l.need-index l.need-items)) ≡ list_all fits (map need_entry l.need-items)
