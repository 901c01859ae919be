use Rattle.std.proofs.Common.{◌≡◌, drop, map}
use Rattle.ac_cloud.specs.Cloud.CloudWorld.{providers_of, world_of}
use Rattle.ac_session.specs.Marks.{kept_shown, restored}
use Rattle.ac_session.proofs.turns.marks.use_again.Given as goal

abbrev pub invariant-loop-one : goal.invariant-loop-one
invariant-loop-one l = record {
  rest : restored (map kept_shown (drop l.one-index l.kept)) (providers_of l.cloud) ≡ restored (map kept_shown l.kept) (providers_of l.fn.cloud);
  sizes : (world_of l.cloud).sizes ≡ (world_of l.fn.cloud).sizes;
}
