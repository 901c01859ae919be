use Rattle.std.proofs.Common.{◌≡◌, ℕ, ◌<◌, [], true, refl, List, length, map, arith, ap, ◌∙◌, length-set, get_or-set_same, Global, slice_index_or}
use Rattle.std.specs.declared.vec.Vec.{Vec}
use Rattle.std.specs.Option.{option_map}
use Rattle.ac_query.specs.Asked.{slots_of}
use Rattle.ac_query.specs.Shown.Queries.{asked_of}
use Rattle.ac_query.specs.Tokens as tokens
use Rattle.ac_cloud.specs.Cloud.CloudWorld.{providers_of}
use Rattle.ac_prune.specs.Search.{Search, sought}
use Rattle.ac_search.specs.Search.{IsStart, Enters, least_at}
use Rattle.ac_search.specs.Hosts.{search_at, standing}
use Rattle.ac_search.specs.Between.{least_of}
use Rattle.ac_cloud.proofs.InOrder.{cloud_in_order}
use Rattle.ac_prune.proofs.Search.SoughtLemmas.{IsSearch}
use Rattle.ac_prune.proofs.Roots.KeptLemmas.{length_kept, kept_choices}
use Rattle.ac_search.proofs.Steps.EntryLemmas.{enter_seeking}
use Rattle.ac_search.proofs.Steps.MoveLemmas.{sound_new, left_new}
use Rattle.ac_search.proofs.Search.LeastLemmas.{least_len, rest_sought}
use Rattle.ac_search.proofs.Search.StandLemmas.{is_search_at, sought_at}
use Rattle.ac_search.proofs.walk.Walk.begin.Goals as goal

-- the first slot is entered
entered : (m : Search) (laws : IsSearch m) (kept : List (Vec ℕ Global)) (v : Vec ℕ Global) (list least x : List ℕ) (j : ℕ) → map (λ (u : Vec ℕ Global). u.items) kept ≡ m.choices → 0 < m.width → v ≡ slice_index_or kept 0 v → list ≡ v.items → least ≡ x
    → IsStart list (least_at least 0) j → Enters m x [] 0 j true
entered m laws kept v list least x j listed some is same least_is start = enter_seeking laws x [] 0 refl some j refl (rw (same ∙ kept_choices m laws kept 0 v listed some is, least_is) at start)

pub new-requires-2-clause-choices : goal.new-requires-2-clause-choices
new-requires-2-clause-choices c = rw c.deref.ensures.value c.in_ok-choices.ensures

pub index-requires : goal.index-requires
index-requires c =
    let m = search_at (providers_of c.args.cloud.now) (asked_of c.args.query.now) (option_map (λ marks. marks.items) c.args.roots) in
    let many = length_kept m (is_search_at (providers_of c.args.cloud.now) (asked_of c.args.query.now) (option_map (λ marks. marks.items) c.args.roots)) c.in_ok-choices.choices.items (rw (c.in_ok-ledger.ensures.cloud, c.in_ok-ledger.ensures.query) at c.in_ok-choices.ensures) in
    omega (arith, many, c.count_slots-width.ensures.some, c.count_slots-width.ensures.count)

pub invariant_of-result : goal.invariant_of-result
invariant_of-result c =
    let m = search_at (providers_of c.args.cloud.now) (asked_of c.args.query.now) (option_map (λ marks. marks.items) c.args.roots) in
    let laws = is_search_at (providers_of c.args.cloud.now) (asked_of c.args.query.now) (option_map (λ marks. marks.items) c.args.roots) in
    let x = option_map (λ t. tokens.ids_of t.now) c.args.after in
    let width = c.count_slots-width.ensures.count in
    let short = least_len (providers_of c.args.cloud.now) c.count_slots-width.result x in
    let some : 0 < m.width = omega (arith, c.count_slots-width.ensures.some) in
    let wide : length c.in_ok-places.places.items ≡ m.width = omega (arith, c.in_ok-places.places.ok, c.in_ok-places.ensures.len) in
    let enters = entered m laws c.in_ok-choices.choices.items c.index.result.now c.deref-2.result.now c.deref-3.result.now c.in_ok-least.least.items c.start_of.result (rw (c.in_ok-ledger.ensures.cloud, c.in_ok-ledger.ensures.query) at c.in_ok-choices.ensures) some c.index.ensures c.deref-2.ensures.value c.deref-3.ensures.value c.start_of.ensures in
    record {
      listed = c.in_ok-choices.ensures;
      resumed = rw (c.in_ok-ledger.ensures.cloud, c.in_ok-ledger.ensures.query, ← width, c.in_ok-after.ensures) c.in_ok-least.ensures;
      looking = c.in_ok-lookout.ensures;
      marked = rw c.in_ok-ledger.ensures.cloud c.requires;
      accounted = c.in_ok-ledger.ensures.accounts;
      path_len = rw c.in_ok-ledger.ensures.query (omega (arith, c.in_ok-path.path.ok, c.in_ok-path.ensures.len, width));
      places_len = rw c.in_ok-ledger.ensures.query (length-set c.in_ok-places.places.items 0 c.start_of.result ∙ wide);
      sound = rw (c.in_ok-ledger.ensures.cloud, c.in_ok-ledger.ensures.query, get_or-set_same c.in_ok-places.places.items 0 c.start_of.result 0 (omega (arith, wide)))
          (sound_new laws c.in_ok-least.least.items c.start_of.result (omega (arith, ap length c.in_ok-least.ensures)) some enters);
    }

pub returns-clause-left : goal.returns-clause-left
returns-clause-left c =
    let all = providers_of c.args.cloud.now in
    let asked = asked_of c.args.query.now in
    let roots = option_map (λ marks. marks.items) c.args.roots in
    let m = search_at all asked roots in
    let laws = is_search_at all asked roots in
    let x = option_map (λ t. tokens.ids_of t.now) c.args.after in
    let some : 0 < m.width = omega (arith, c.count_slots-width.ensures.some) in
    let enters = entered m laws c.in_ok-choices.choices.items c.index.result.now c.deref-2.result.now c.deref-3.result.now c.in_ok-least.least.items c.start_of.result (rw (c.in_ok-ledger.ensures.cloud, c.in_ok-ledger.ensures.query) at c.in_ok-choices.ensures) some c.index.ensures c.deref-2.ensures.value c.deref-3.ensures.value c.start_of.ensures in
    let least : c.in_ok-least.least.items ≡ least_of all (length (slots_of asked)) x = c.in_ok-least.ensures ∙ ap (λ (k : ℕ). least_of all k x) c.count_slots-width.ensures.count in
    rw (c.in_ok-ledger.ensures.cloud, c.in_ok-ledger.ensures.query, get_or-set_same c.in_ok-places.places.items 0 c.start_of.result 0 (omega (arith, c.in_ok-places.places.ok, c.in_ok-places.ensures.len, some)))
    (left_new m c.in_ok-least.least.items c.start_of.result some enters
    ∙ (ap (λ (y : List ℕ). sought m y) least ∙ (sought_at all asked roots (least_of all (length (slots_of asked)) x) ∙ ap (standing all roots) (rest_sought all (cloud_in_order c.args.cloud.now).order asked some x))))
