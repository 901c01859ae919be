use Rattle.std.proofs.Common.{◌≡◌, ◌<◌, ◌≤◌, ◌||◌, ℕ, [], false, get_or, length, map, slice_index_or}
use Rattle.ac_base.specs.Names.{trait_bytes}
use Rattle.ac_cloud.specs.Providers.{provider_of}
use Rattle.ac_cloud.specs.World.{has_trait}
use Rattle.ac_find.proofs.missing.marks.mark_each.Given as goal

abbrev pub invariant-loop-k : goal.invariant-loop-k
invariant-loop-k l =
    let has = has_trait (provider_of l.provider) in
    record {
      count : length l.marks ≡ length l.fn.marks;
      done : (k : ℕ) → k < l.k
          → slice_index_or l.marks k false ≡ (slice_index_or l.fn.marks k false || has (get_or (map trait_bytes l.names) k []));
      same : (k : ℕ) → l.k ≤ k → slice_index_or l.marks k false ≡ slice_index_or l.fn.marks k false;
    }
