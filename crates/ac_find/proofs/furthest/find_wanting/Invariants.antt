use Rattle.std.proofs.Common.{◌≡◌, length, map}
use Rattle.std.specs.List.{range_with_len}
use Rattle.ac_cloud.specs.Cloud.CloudWorld.{providers_of}
use Rattle.ac_query.specs.Shown.Queries.{asked_of}
use Rattle.ac_find.specs.Lacking.{lack_at}
use Rattle.ac_find.specs.Shown.Furthest.{wanting_below}
use Rattle.ac_find.proofs.furthest.find_wanting.Given as goal

abbrev pub invariant-loop-s : goal.invariant-loop-s
invariant-loop-s l =
    let all = providers_of l.cloud in
    let asked = asked_of l.query in
    l.found.items ≡ map (λ r. wanting_below all asked l.s r (lack_at all asked r)) (range_with_len 0 (length all))
