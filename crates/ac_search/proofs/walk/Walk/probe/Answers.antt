use Rattle.std.proofs.Common.{◌≡◌, ◌<◌, ◌∙◌, ◌++◌, ◌+◌, ℕ, suc, List, ◌∷◌, [], length, set, sym, ap, true, false, Bool, arith, take_all, length-set}
use Rattle.std.proofs.Math.Seq.{take-suc-set}
use Rattle.std.proofs.lemmas.List.Elements.{All-from_recursion}
use Rattle.ac_prune.specs.QuerySearch.{completes}
use Rattle.ac_rules.specs.Judge.{is_open}
use Rattle.ac_base.specs.Devices.{one_more}
use Rattle.ac_search.specs.Hosts.{stands}
use Rattle.ac_search.specs.Shown.Walk.{cloud_in, query_in, roots_in, search_in, place_in, path_in, front_in, IsSame}
use Rattle.ac_search.specs.Search.Steps.{IsNext, Skips}
use Rattle.ac_search.specs.declared.walk.Walk.{Walk}
use Rattle.ac_prune.proofs.Search.OpenLemmas.{candidate_completes}
use Rattle.ac_search.proofs.Search.StandLemmas.{sought_standing}
use Rattle.ac_search.proofs.Search.BoundLemmas.{next_low, left_here, left_given, left_lacking}
use Rattle.ac_search.proofs.Steps.StepLemmas.{laws_in, same_then, left_skip, goes_skip}
use Rattle.ac_search.proofs.walk.Walk.probe.Goals as goal

-- at the last slot the path with the next choice at its end is the front that is tried
whole : (w : Walk) (p : ℕ) → IsNext w p → suc w.depth ≡ (search_in w).width → set w.path.items w.depth p ≡ front_in w
whole w p next last =
    sym (take_all (suc w.depth) (set w.path.items w.depth p) (omega (arith, length-set w.path.items w.depth p, w.path_len, last)))
    ∙ (take-suc-set w.path.items w.depth p (omega (arith, w.path_len, w.sound.within)) ∙ ap (λ (r : ℕ). path_in w ++ r ∷ []) next.is)

-- whether it is a candidate
wanted : (w u : Walk) (p : ℕ) (list : List ℕ) (complete : Bool) → IsNext w p → suc w.depth ≡ (search_in w).width → IsSame w u → list ≡ set w.path.items w.depth p → is_open (cloud_in w) (query_in w) (front_in w) ≡ true
    → stands (cloud_in w) (roots_in w) (front_in w) ≡ true → complete ≡ completes (cloud_in u) (query_in u) list → (search_in w).is_wanted (front_in w) ≡ complete
wanted w u p list complete next last same is opens there says =
    let told = rw (same.cloud, same.query, is ∙ whole w p next last) at says in
    sought_standing (cloud_in w) (query_in w) (roots_in w) (front_in w) there ∙ (candidate_completes (cloud_in w) (query_in w) (front_in w) ∙ rw opens (sym told))

-- what is put behind the path doesn't matter
skips_put : (w u v : Walk) → IsSame w u → path_in u ≡ path_in w → u.depth ≡ w.depth → place_in u ≡ place_in w → u.probes ≡ w.probes → Skips u v → Skips w v
skips_put w u v same path depth place probes s = record {
  same = same_then w u v same s.same;
  path = s.path ∙ path;
  depth = s.depth ∙ depth;
  at = s.at ∙ ap (λ (i : ℕ). i + 1) place;
  counted = s.counted ∙ ap one_more probes;
}

pub returns-then-not-leads_on-clause-gives : goal.returns-then-not-leads_on-clause-gives
returns-then-not-leads_on-clause-gives c =
    let w = c.args.self.now in
    goes_skip w c.skip.new.self c.skip.ensures.skips c.requires.among (left_here (laws_in w) w.sound c.requires.among (c.leads_on.ensures.dead c.if-not-leads_on.true))

pub completes-complete-requires-clause-providers : goal.completes-complete-requires-clause-providers
completes-complete-requires-clause-providers c =
    let w = c.args.self.now in
    let last : suc w.depth ≡ (search_in w).width = omega (arith, w.path_len, w.sound.within, c.if-self-len.false, c.len.ensures) in
    rw (c.put.ensures.same.cloud, c.as_slice.ensures.value, c.put.ensures.whole, whole w c.args.provider c.requires last) (All-from_recursion (λ p. p < length (cloud_in w)) (front_in w) (next_low (laws_in w) w.sound c.requires.among))

pub returns-then-complete-clause-gives : goal.returns-then-complete-clause-gives
returns-then-complete-clause-gives c =
    let w = c.args.self.now in
    let u = c.put.new.self in
    let v = c.skip-2.new.self in
    let last : suc w.depth ≡ (search_in w).width = omega (arith, w.path_len, w.sound.within, c.if-self-len.false, c.len.ensures) in
    let skips = skips_put w u v c.put.ensures.same c.put.ensures.path c.put.ensures.depth c.put.ensures.place c.put.ensures.probes c.skip-2.ensures.skips in
    let path : v.path.items ≡ front_in w = c.skip-2.ensures.path ∙ (c.put.ensures.whole ∙ whole w c.args.provider c.requires last) in
    let wants = wanted w u c.args.provider c.as_slice.result.now true c.requires last c.put.ensures.same (c.as_slice.ensures.value ∙ c.put.ensures.whole) (c.leads_on.ensures.opens c.if-not-leads_on.false) (c.leads_on.ensures.stands c.if-not-leads_on.false) (sym c.if-complete.true ∙ c.completes-complete.ensures) in
    record {
      skips = skips;
      last = rw (skips.depth, skips.same.query) last;
      head = rw (left_skip w v skips, path) (left_given (laws_in w) w.sound last c.requires.among wants);
    }

pub returns-else-complete-clause-gives : goal.returns-else-complete-clause-gives
returns-else-complete-clause-gives c =
    let w = c.args.self.now in
    let u = c.put.new.self in
    let v = c.skip-2.new.self in
    let last : suc w.depth ≡ (search_in w).width = omega (arith, w.path_len, w.sound.within, c.if-self-len.false, c.len.ensures) in
    let skips = skips_put w u v c.put.ensures.same c.put.ensures.path c.put.ensures.depth c.put.ensures.place c.put.ensures.probes c.skip-2.ensures.skips in
    let lacks = wanted w u c.args.provider c.as_slice.result.now false c.requires last c.put.ensures.same (c.as_slice.ensures.value ∙ c.put.ensures.whole) (c.leads_on.ensures.opens c.if-not-leads_on.false) (c.leads_on.ensures.stands c.if-not-leads_on.false) (sym c.if-complete.false ∙ c.completes-complete.ensures) in
    goes_skip w v skips c.requires.among (left_lacking (laws_in w) w.sound last c.requires.among lacks)
