use Rattle.std.proofs.Common.{◌≡◌, ◌<◌, ℕ, None, length, option_map}
use Rattle.std.specs.List.{flat_map, range_with_len}
use Rattle.std.specs.Prelude.{drop}
use Rattle.ac_cloud.specs.Cloud.CloudWorld.{providers_of}
use Rattle.ac_prune.specs.Ahead.{hosts_of}
use Rattle.ac_query.specs.Asked.{slots_of}
use Rattle.ac_query.specs.Shown.Queries.{asked_of}
use Rattle.ac_fill.specs.Bounds.{slot_wants, wants}
use Rattle.ac_fill.specs.Found.{found_in, rarest, root_in}
use Rattle.ac_fill.proofs.found.Rarest.new.Given as goal

abbrev pub invariant-loop-s : goal.invariant-loop-s
invariant-loop-s l =
    let all = providers_of l.cloud in
    let left = flat_map slot_wants (drop l.s (slots_of (asked_of l.query))) in
    record {
      count : length l.found.roots.items ≡ length all;
      together : rarest (option_map found_in l.found.together) all (range_with_len 0 (length all)) left ≡ rarest None all (range_with_len 0 (length all)) (wants (asked_of l.query));
      roots : (r : ℕ) → r < length all → rarest (root_in l.found.roots.items r) all (hosts_of all r) left ≡ rarest None all (hosts_of all r) (wants (asked_of l.query));
    }
