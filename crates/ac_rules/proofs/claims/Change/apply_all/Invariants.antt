use Rattle.std.proofs.Common.{◌≡◌, ◌≤◌, length, drop}
use Rattle.ac_cloud.specs.Cloud.CloudWorld.{providers_of, root_lists_of, world_of}
use Rattle.ac_query.specs.Asked.{slots_of}
use Rattle.ac_query.specs.Shown.Queries.{asked_of}
use Rattle.ac_rules.specs.Placed.{assigned, placed}
use Rattle.ac_rules.specs.Together.{sum_on}
use Rattle.ac_rules.specs.Shown.Changes.{changed}
use Rattle.ac_rules.proofs.claims.Change.apply_all.Given as goal

abbrev pub invariant-loop-s : goal.invariant-loop-s
invariant-loop-s l =
    let slots = slots_of (asked_of l.query) in
    record {
      within : l.s ≤ length l.list;
      many : length (providers_of l.cloud) ≡ length (providers_of l.fn.cloud);
      rest : changed l.self (sum_on (placed (drop l.s slots) (drop l.s l.list))) (providers_of l.cloud)
          ≡ changed l.self (sum_on (assigned (asked_of l.query) l.list)) (providers_of l.fn.cloud);
      sizes : (world_of l.cloud).sizes ≡ (world_of l.fn.cloud).sizes;
      root_lists : root_lists_of l.cloud ≡ root_lists_of l.fn.cloud;
    }
