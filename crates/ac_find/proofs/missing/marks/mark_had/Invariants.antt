use Rattle.std.proofs.Common.{◌≡◌, ◌<◌, ◌&&◌, ◌||◌, ℕ, List, [], false, get_or, length, map, slice_index_or}
use Rattle.std.specs.Prelude.{not}
use Rattle.std.specs.List.{list_any, range_with_len}
use Rattle.ac_base.specs.Names.{trait_bytes}
use Rattle.ac_cloud.specs.Cloud.CloudWorld.{providers_of}
use Rattle.ac_cloud.specs.World.{has_trait, is_root, provider_at}
use Rattle.ac_find.proofs.missing.marks.mark_had.Given as goal

abbrev pub invariant-loop-ix : goal.invariant-loop-ix
invariant-loop-ix l =
    let all = providers_of l.cloud in
    let had = λ (name : List ℕ) (ix : ℕ). (not l.roots_alone || is_root all (provider_at all ix).id) && has_trait (provider_at all ix) name in
    record {
      count : length l.marks ≡ length l.names;
      marked : (k : ℕ) → k < length l.names → slice_index_or l.marks k false ≡ list_any (had (get_or (map trait_bytes l.names) k [])) (range_with_len 0 l.ix);
    }
