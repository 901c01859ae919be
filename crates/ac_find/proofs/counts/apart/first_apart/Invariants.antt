use Rattle.std.proofs.Common.{◌≡◌, ◌-◌, length}
use Rattle.std.specs.Prelude.{find}
use Rattle.std.specs.List.{range_with_len}
use Rattle.std.specs.Option.{is_some}
use Rattle.ac_query.specs.Asked.{slots_of}
use Rattle.ac_query.specs.Shown.Queries.{asked_of}
use Rattle.ac_cloud.specs.Cloud.CloudWorld.{providers_of}
use Rattle.ac_find.specs.Apart.{apart_from}
use Rattle.ac_find.specs.Shown.Apart.{AreServed}
use Rattle.ac_find.proofs.counts.apart.first_apart.Given as goal

abbrev pub invariant-loop-t : goal.invariant-loop-t
invariant-loop-t l =
    let all = providers_of l.cloud in
    let asked = asked_of l.query in
    let n = length (slots_of asked) in
    record {
      roots : AreServed all asked l.roots.items;
      many : length l.roots.items ≡ l.t;
      found : find (λ t. is_some (apart_from all asked t)) (range_with_len l.t (n - l.t)) ≡ find (λ t. is_some (apart_from all asked t)) (range_with_len 0 n);
    }
