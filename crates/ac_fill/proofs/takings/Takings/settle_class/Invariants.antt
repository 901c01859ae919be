use Rattle.std.proofs.Common.{◌≡◌, ◌<◌, ◌≤◌, ℕ, List}
use Rattle.ac_base.specs.Names.{class_bytes}
use Rattle.ac_cloud.specs.Cloud.CloudWorld.{providers_of, root_lists_of, world_of}
use Rattle.ac_fill.specs.Shown.{count_in, taken_in, with_taken, IsSame, IsTakenOf}
use Rattle.ac_fill.proofs.takings.Takings.settle_class.Given as goal

abbrev pub invariant-loop-ix : goal.invariant-loop-ix
invariant-loop-ix l = record {
  world : with_taken l.self (providers_of l.cloud) ≡ with_taken l.fn.self (providers_of l.fn.cloud);
  gone : (p : ℕ) → p < l.ix → p < count_in l.fn.self → taken_in l.self p (class_bytes l.class) ≡ 0;
  less : (p : ℕ) (c : List ℕ) → p < count_in l.fn.self → taken_in l.self p c ≤ taken_in l.fn.self p c;
  fits : IsTakenOf (providers_of l.cloud) l.self;
  same : IsSame l.fn.self l.self;
  sizes : (world_of l.cloud).sizes ≡ (world_of l.fn.cloud).sizes;
  root_lists : root_lists_of l.cloud ≡ root_lists_of l.fn.cloud;
}
