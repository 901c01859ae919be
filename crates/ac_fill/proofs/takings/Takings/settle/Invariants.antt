use Rattle.std.proofs.Common.{◌≡◌, ◌<◌, ℕ, [], slice_index_or}
use Rattle.ac_cloud.specs.Cloud.CloudWorld.{providers_of, root_lists_of, world_of}
use Rattle.ac_fill.specs.Shown.{count_in, taken_in, texts_in, with_taken, IsSame, IsTakenOf}
use Rattle.ac_fill.proofs.takings.Takings.settle.Given as goal

abbrev pub invariant-loop-k : goal.invariant-loop-k
invariant-loop-k l = record {
  world : with_taken l.self (providers_of l.cloud) ≡ with_taken l.fn.self (providers_of l.fn.cloud);
  gone : (k p : ℕ) → k < l.k → p < count_in l.fn.self → taken_in l.self p (slice_index_or (texts_in l.fn.self) k []) ≡ 0;
  fits : IsTakenOf (providers_of l.cloud) l.self;
  same : IsSame l.fn.self l.self;
  sizes : (world_of l.cloud).sizes ≡ (world_of l.fn.cloud).sizes;
  root_lists : root_lists_of l.cloud ≡ root_lists_of l.fn.cloud;
}
