use Rattle.std.proofs.Common.{◌≡◌, ◌<◌, ℕ, List, length, map, option_map}
use Rattle.std.specs.List.{range_with_len}
use Rattle.std.specs.Prelude.{drop}
use Rattle.ac_cloud.specs.Cloud.CloudWorld.{providers_of}
use Rattle.ac_prune.specs.Ahead.{hosts_of}
use Rattle.ac_query.specs.declared.group.Need.{Need}
use Rattle.ac_query.specs.Shown.Groups.{need_entry}
use Rattle.ac_query.specs.Shown.Queries.{asked_of}
use Rattle.ac_rules.specs.Placed.{slot_at}
use Rattle.ac_fill.specs.Bounds.{Want}
use Rattle.ac_fill.specs.Found.{found_in, rarest, root_in, wants_of}
use Rattle.ac_fill.proofs.found.Rarest.find_slot.Given as goal

abbrev pub invariant-loop-need : goal.invariant-loop-need
invariant-loop-need l =
    let all = providers_of l.cloud in
    let wants : List Need → List Want = λ needs. wants_of (slot_at (asked_of l.query) l.s) (map need_entry needs) in
    record {
      count : length l.self.roots.items ≡ length l.fn.self.roots.items;
      together : rarest (option_map found_in l.self.together) all (range_with_len 0 (length all)) (wants (drop l.need-index l.need-items))
          ≡ rarest (option_map found_in l.fn.self.together) all (range_with_len 0 (length all)) (wants l.need-items);
      roots : (r : ℕ) → r < length all → rarest (root_in l.self.roots.items r) all (hosts_of all r) (wants (drop l.need-index l.need-items))
          ≡ rarest (root_in l.fn.self.roots.items r) all (hosts_of all r) (wants l.need-items);
    }
