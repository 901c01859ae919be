use Rattle.std.proofs.Common.{◌≡◌, ◌<◌, ℕ, true, length, slice_index}
use Rattle.std.specs.Prelude.{MatchOption}
use Rattle.ac_cloud.specs.World.{anchors_of}
use Rattle.ac_cloud.specs.Cloud.CloudWorld.{providers_of}
use Rattle.ac_prune.specs.Trees.Keys.{is_there}
use Rattle.ac_prune.proofs.front.bound_by.Given as goal

abbrev pub invariant-loop-ix : goal.invariant-loop-ix
invariant-loop-ix l =
    MatchOption l.best ((l.least ≡ 129) × ((i : ℕ) → i < l.ix-index → 128 < length (anchors_of (providers_of l.cloud) (slice_index l.front i)))) (λ p. is_there l.front p ≡ true)
