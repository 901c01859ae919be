use Rattle.std.proofs.Common.{◌≡◌, ◌&&◌, false, slice_index_or}
use Rattle.ac_cloud.specs.World.{provider_at}
use Rattle.ac_cloud.specs.Cloud.CloudWorld.{providers_of}
use Rattle.ac_query.specs.Shown.Groups.{need_entry}
use Rattle.ac_rules.specs.Together.{holds}
use Rattle.ac_find.specs.Explained.{count_below}
use Rattle.ac_find.proofs.counts.classes.count_room.Given as goal

abbrev pub invariant-loop-ix : goal.invariant-loop-ix
invariant-loop-ix l =
    l.count ≡ count_below l.ix (λ p. slice_index_or l.marks p false && holds (provider_at (providers_of l.cloud) p) (need_entry l.need).0 (need_entry l.need).1)
