use Rattle.std.proofs.Common.{◌≡◌, ◌&&◌, false, map, slice_index_or}
use Rattle.std.specs.List.{range_with_len}
use Rattle.ac_base.specs.Names.{trait_bytes}
use Rattle.ac_query.specs.Shown.Queries.{asked_of}
use Rattle.ac_cloud.specs.Cloud.CloudWorld.{providers_of}
use Rattle.ac_find.specs.Shown.Explained.{holds_each}
use Rattle.ac_find.proofs.counts.required.Unsuffixed.few_marks.Given as goal

abbrev pub invariant-loop-root : goal.invariant-loop-root
invariant-loop-root l =
    l.few.items ≡ map (λ r. slice_index_or l.marks r false && holds_each (providers_of l.self.cloud.now) (asked_of l.self.query.now) (map trait_bytes l.names) r) (range_with_len 0 l.root)
