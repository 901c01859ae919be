use Rattle.std.proofs.Common.{◌≡◌, length, map, take}
use Rattle.std.specs.Prelude.{not, position}
use Rattle.std.specs.Option.{option_map}
use Rattle.ac_base.specs.Names.{trait_bytes}
use Rattle.ac_cloud.specs.Cloud.CloudWorld.{providers_of}
use Rattle.ac_query.specs.Shown.Queries.{asked_of}
use Rattle.ac_find.specs.Explained.{is_held}
use Rattle.ac_find.specs.Shown.Unheld.{AreTold}
use Rattle.ac_find.specs.declared.unheld.of_roots.Unheld.TheVariants as unheld
use Rattle.ac_find.proofs.unheld.of_roots.tell_traits.Given as goal

abbrev pub invariant-loop-k : goal.invariant-loop-k
invariant-loop-k l =
    let all = providers_of l.serving.cloud.now in
    let asked = asked_of l.serving.query.now in
    record {
      count : length l.found ≡ length l.fn.found;
      told : AreTold all (λ r. option_map (λ k. unheld.Trait k) (position (λ x. not (is_held all asked r x)) (take l.k (map trait_bytes l.names)))) l.lacks l.fn.found l.found;
    }
