use Rattle.std.proofs.Common.{◌≡◌, ◌∙◌, ◌<◌, ℕ, length, map, sym, ap, arith}
use Rattle.std.specs.List.{range_with_len}
use Rattle.std.proofs.lemmas.Grind.{common_steps}
use Rattle.std.proofs.lemmas.List.FromFn.{length-map-range_with_len}
use Rattle.ac_query.specs.Shown.Queries.{asked_of}
use Rattle.ac_cloud.specs.Cloud.CloudWorld.{providers_of}
use Rattle.ac_rules.specs.Together.{takes_root}
use Rattle.ac_prune.specs.Fitting.{fits_at}
use Rattle.ac_search.specs.Shown.Walk.{cloud_in, query_in}
use Rattle.ac_prune.proofs.Search.OpenLemmas.{map_range_more}
use Rattle.ac_search.proofs.Steps.LeaveLemmas.{settles_begin}
use Rattle.ac_search.proofs.hosts.fitting_roots.Goals as goal

pub at_roots-requires : goal.at_roots-requires
at_roots-requires c =
    let all = providers_of c.args.cloud.now in
    ap length c.in_ok-roots.ensures ∙ length-map-range_with_len (takes_root all (asked_of c.args.query.now)) 0 (length all)

pub settle-requires : goal.settle-requires
settle-requires c =
    let walk = c.in_ok-at_roots.ensures in
    let within = c.within-walk.ensures in
    settles_begin c.within-walk.result (providers_of c.args.cloud.now) (asked_of c.args.query.now) c.in_ok-roots.roots.items (within.cloud ∙ walk.cloud) (within.query ∙ walk.query) (within.roots ∙ walk.roots) (within.left ∙ walk.left) c.in_ok-roots.ensures

pub loop-root-preserved : goal.loop-root-preserved
loop-root-preserved c =
    let all = providers_of c.args.cloud.now in
    let asked = asked_of c.args.query.now in
    let r = c.loop-root.root in
    let walk = c.settle.new.walk in
    let cloud : cloud_in walk ≡ all = c.in_ok-settle.ensures.cloud ∙ (c.within-walk.ensures.cloud ∙ c.in_ok-at_roots.ensures.cloud) in
    let query : query_in walk ≡ asked = c.in_ok-settle.ensures.query ∙ (c.within-walk.ensures.query ∙ c.in_ok-at_roots.ensures.query) in
    let low : r < length all = omega (arith, c.loop-root-test.true, c.len-root-end.ensures) in
    let fits : fits_at all asked r ≡ c.has_left.result = (rw (cloud, query) at c.in_ok-settle.ensures.settled) r low ∙ sym (rw (cloud, query) at c.has_left.ensures) in
    rw (map_range_more (fits_at all asked) r) (grind (arith, common_steps, fits))

pub returns-clause-fits : goal.returns-clause-fits
returns-clause-fits c =
    let all = providers_of c.args.cloud.now in
    let done : c.loop-root.root ≡ length all = omega (arith, c.loop-root-test.false, c.loop-root.auto.root-end, c.len-root-end.ensures) in
    c.loop-root.invariant ∙ ap (λ (n : ℕ). map (fits_at all (asked_of c.args.query.now)) (range_with_len 0 n)) done
