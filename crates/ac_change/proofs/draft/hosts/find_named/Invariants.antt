use Rattle.std.proofs.Common.{◌≡◌, ◌<◌, IfSome, filter}
use Rattle.std.specs.List.{range_with_len}
use Rattle.std.specs.Option.{option_to_list}
use Rattle.ac_cloud.specs.World.{has_name, provider_at}
use Rattle.ac_change.specs.Drafts.{all_held}
use Rattle.ac_change.proofs.draft.hosts.find_named.Given as goal

abbrev pub invariant-loop-ix : goal.invariant-loop-ix
invariant-loop-ix l =
    record {
      found : filter (λ ix. has_name (provider_at (all_held l.list) ix) l.name) (range_with_len 0 l.ix) ≡ option_to_list l.found;
      inside : IfSome l.found (λ k. k < l.ix);
    }
