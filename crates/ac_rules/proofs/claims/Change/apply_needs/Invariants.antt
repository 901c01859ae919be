use Rattle.std.proofs.Common.{◌≡◌, ◌<◌, map, length, drop}
use Rattle.ac_cloud.specs.Cloud.CloudWorld.{providers_of, root_lists_of, world_of}
use Rattle.ac_query.specs.Shown.Groups.{need_entry}
use Rattle.ac_rules.specs.Shown.Changes.{asked_of_one, changed}
use Rattle.ac_rules.proofs.claims.Change.apply_needs.Given as goal

abbrev pub invariant-loop-need : goal.invariant-loop-need
invariant-loop-need l =
    record {
      inside : l.ix < length (providers_of l.cloud);
      rest : changed l.self (asked_of_one l.ix (map need_entry (drop l.need-index l.needs))) (providers_of l.cloud)
          ≡ changed l.self (asked_of_one l.ix (map need_entry l.needs)) (providers_of l.fn.cloud);
      sizes : (world_of l.cloud).sizes ≡ (world_of l.fn.cloud).sizes;
      root_lists : root_lists_of l.cloud ≡ root_lists_of l.fn.cloud;
    }
