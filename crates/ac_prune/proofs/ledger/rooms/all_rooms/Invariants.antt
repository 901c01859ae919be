use Rattle.std.proofs.Common.{◌≡◌, ◌+◌, ◌*◌, ◌^◌, ◌<◌, ℕ, [], length, map, slice_index, slice_index_or}
use Rattle.ac_base.specs.Names.{class_bytes}
use Rattle.ac_cloud.specs.Cloud.CloudWorld.{providers_of}
use Rattle.ac_prune.specs.Left.{room_on}
use Rattle.ac_prune.proofs.ledger.rooms.all_rooms.Given as goal

abbrev pub invariant-loop-ix : goal.invariant-loop-ix
invariant-loop-ix l = record {
  count : length l.rooms.items ≡ l.ix * length l.classes;
  rooms : (p k : ℕ) → p < l.ix → k < length l.classes → slice_index l.rooms.items (p * length l.classes + k) ≡ room_on (providers_of l.cloud) p (slice_index_or (map (λ c. class_bytes c.now) l.classes) k []);
  small : (i : ℕ) → slice_index l.rooms.items i < 2 ^ 64;
}
