use Rattle.std.proofs.Common.{◌≡◌, ◌<◌, ◌≤◌, ℕ, None, length, map, slice_index_or}
use Rattle.std.specs.Option.{option_map}
use Rattle.ac_base.specs.Names.{trait_bytes}
use Rattle.ac_cloud.specs.Cloud.CloudWorld.{providers_of}
use Rattle.ac_query.specs.Shown.Queries.{asked_of}
use Rattle.ac_find.specs.Unheld.{unheld_trait}
use Rattle.ac_find.specs.Shown.Unheld.{told_more}
use Rattle.ac_find.specs.declared.unheld.of_roots.Unheld.TheVariants as unheld
use Rattle.ac_find.proofs.unheld.of_roots.tell_few.Given as goal

abbrev pub invariant-loop-root : goal.invariant-loop-root
invariant-loop-root l = record {
  count : length l.found ≡ length l.fn.found;
  done : (r : ℕ) → r < l.root
      → slice_index_or l.found r None ≡ told_more (slice_index_or l.lacks r None) (slice_index_or l.fn.found r None) (option_map (λ k. unheld.Trait k) (unheld_trait (providers_of l.serving.cloud.now) (asked_of l.serving.query.now) r (map trait_bytes l.names)));
  same : (r : ℕ) → l.root ≤ r → slice_index_or l.found r None ≡ slice_index_or l.fn.found r None;
}
