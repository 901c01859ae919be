-- A walk ends: each step raises the front that it tries next, and there are finitely many fronts.
use Rattle.std.proofs.Common.{◌≡◌, ℕ, ◌+◌, ◌*◌, ◌<◌, ◌≤◌, suc, true, List, [], ◌∷◌, ◌++◌, length, Option, None, Some, IsSome, inl, inr, refl, sym, ap, ◌∙◌, subst, arith, length-append, take_all}
use Rattle.std.proofs.Math.Seq.{take-suc}
use Rattle.std.specs.Prelude.{min, IfSome}
use Rattle.std.proofs.Math.Nat.{min-le_left}
use Rattle.std.specs.List.{filter, slice_index, AllByRecursion as Each}
use Rattle.std.proofs.lemmas.Bool.{cases_lt, eq-eqb, false≢true, ne_eqb, not_from_false, not_from_true}
use Rattle.std.proofs.lemmas.Bool.Decides.{nat_tests}
use Rattle.std.proofs.lemmas.List.{get_or_past}
use Rattle.std.specs.Option.{option_map}
use Rattle.ac_base.specs.Devices.{last_count, one_more, Rises}
use Rattle.ac_query.specs.Shown.Queries.{asked_of}
use Rattle.ac_cloud.specs.Cloud.CloudWorld.{providers_of}
use Rattle.ac_cloud.proofs.InOrder.{cloud_in_order}
use Rattle.ac_rules.specs.Lists.{lex_lt}
use Rattle.ac_prune.specs.Search.{Search, choices_at, next_at}
use Rattle.ac_search.specs.Search.{all_shorter, from, between}
use Rattle.ac_search.specs.Shown.Walk.{cloud_in, query_in, token_in, given_in, most_in, changed, is_spent, search_in, place_in, slot_in, path_in, front_in, left_of, may_stop, IsSame, MayStop, StaysWithin, Tries}
use Rattle.ac_search.specs.Between.{open_between}
use Rattle.ac_search.specs.Search.Steps.{IsTried, Goes, Halts, Passes, Gives, Ends, Advances, Finishes, Stops}
use Rattle.ac_search.specs.declared.walk.Walk.{Walk}
use Rattle.ac_rules.proofs.Elements.{each_append, each_weaker, each_all, count_more}
use Rattle.ac_rules.proofs.Lists.OrderLemmas.{lex_irrefl, lex_trans}
use Rattle.ac_search.proofs.Search.ShorterLemmas.{among_all_shorter}
use Rattle.ac_search.proofs.Search.IdsLemmas.{between_by_ids}
use Rattle.ac_prune.proofs.Search.SoughtLemmas.{low_at}
use Rattle.ac_search.proofs.Search.FrontOrder.{lex_le_trans}
use Rattle.ac_search.proofs.Search.BoundLemmas.{path_low}
use Rattle.ac_search.proofs.Steps.BetweenLemmas.{counted_end, counted_given, counted_more}
use Rattle.ac_search.proofs.Steps.ChangeLemmas.{changed_more, differing_front, one_more_kept, one_more_rises, one_more_some, one_more_pays}
use Rattle.ac_search.proofs.Steps.StepLemmas.{laws_in, search_same, itself, may_same, same_then, tried_on, within_kept, within_then}

-- how many fronts from c on there are
unfoldable pub fronts_from : Search → List ℕ → ℕ
fronts_from m c = length (filter (λ t. from c t) (all_shorter (suc m.count) (suc m.width)))

abbrev pub remaining : Walk → ℕ
remaining w = fronts_from (search_in w) (front_in w)

front_low : (w : Walk) → Each (λ p. p < suc (search_in w).count) (front_in w)
front_low w =
    let m = search_in w in
    let n = m.count in
    let j = place_in w in
    let last : next_at m w.depth j < suc n = elim (cases_lt j (length (choices_at m w.depth))) [
      | inl l ↦ let low = low_at m (laws_in w) w.depth j w.sound.within l in omega arith
      | inr g ↦ rw (get_or_past (choices_at m w.depth) j n g) (omega arith)
    ] in
    each_append (λ p. p < suc n) (path_in w) (next_at m w.depth j ∷ [])
    (each_weaker (λ p. p < n) (λ p. p < suc n) (path_in w) (λ p l. omega arith)
    (path_low (laws_in w) w.sound))
    (last, tt)

fronts_fall : (w : Walk) (c : List ℕ) → lex_lt (front_in w) c ≡ true → fronts_from (search_in w) c < remaining w
unfolding fronts_from
fronts_fall w c up =
    let m = search_in w in
    let nodes = all_shorter (suc m.count) (suc m.width) in
    let size : length (front_in w) < suc m.width = omega (arith, length-append (path_in w) (next_at m w.depth (place_in w) ∷ []), w.sound.long, w.sound.within) in
    let more : length (filter (λ t. from c t) nodes) + 1 ≤ length (filter (λ t. from (front_in w) t) nodes) = count_more (λ t. from c t) (λ t. from (front_in w) t) nodes (front_in w)
    (each_all (λ u. from c u ≡ true → from (front_in w) u ≡ true) nodes (λ u e. grind (arith, lex_trans u (front_in w) c)))
    (among_all_shorter (suc m.count) (suc m.width) (front_in w) size (front_low w))
    (not_from_true _ up) (not_from_false _ (lex_irrefl (front_in w))) in
    omega arith

-- each step leaves fewer, whatever it passed over before
pub remaining_falls : (w u v : Walk) → Passes w u → Goes u v → remaining v < remaining w
remaining_falls w u v p g = subst (λ (m : Search). fronts_from m (front_in v) < remaining w) (sym (search_same u v g.same ∙ search_same w u p.same)) (fronts_fall w (front_in v) (lex_le_trans (front_in w) (front_in u) (front_in v) p.up g.up))

-- what several steps keep
pub record Comes (old new : Walk) : Type 0 where
  pub same : IsSame old new
  pub left : left_of new ≡ left_of old
  pub within : StaysWithin old new
  pub kept : old.probes ≤ new.probes
  pub tried : IsTried (given_in old) old.probes new

-- where it has tried, the list in its path is the one that it gave last
given_last : (w : Walk) → 0 < w.probes → given_in w ≡ Some w.path.items
given_last w some = rw (ne_eqb w.probes 0 (λ e. omega (arith, some, e))) refl

pub comes_new : (w : Walk) → Comes w w
comes_new w = record {
  same = itself w;
  left = refl;
  within = within_kept w w refl;
  kept = omega arith;
  tried = elim (cases_lt 0 w.probes) [
    | inl l ↦ rw (given_last w l, differing_front w.path.items w.depth) (omega (arith, min-le_left (w.probes + 0) last_count))
    | inr g ↦ let none : w.probes ≡ 0 = omega arith in rw (eq-eqb w.probes 0 none, w.sound.begun none) (omega (arith, min-le_left (w.probes + 0) last_count))
  ];
}

pub comes_past : (w u v : Walk) → Comes w u → Passes u v → StaysWithin u v → Comes w v
comes_past w u v a b within = record {
  same = same_then w u v a.same b.same;
  left = b.left ∙ a.left;
  within = within_then w u v a.same.most a.within within;
  kept = omega (arith, a.kept, b.kept);
  tried = tried_on u v b.path b.kept (given_in w) w.probes a.tried;
}

pub comes_on : (w u v : Walk) → Comes w u → Goes u v → StaysWithin u v → Comes w v
comes_on w u v a b within = record {
  same = same_then w u v a.same b.same;
  left = b.left ∙ a.left;
  within = within_then w u v a.same.most a.within within;
  kept = omega (arith, a.kept, b.kept);
  tried = b.tried (given_in w) w.probes a.tried;
}

-- its tries, told by the ids of its token
tries_told : (w v : Walk) (y : Option (List ℕ)) → IsSame w v → StaysWithin w v → v.probes ≤ (search_in v).count * length (between (search_in v) v.least.items y) → w.probes ≤ v.probes → (IsSome y → Rises w.probes v.probes)
    → IfSome y (λ l. given_in v ≡ Some l) → IfSome y (λ l. min (w.probes + changed (given_in w) l) last_count ≤ v.probes) → Tries w y v
tries_told w v y same within bounded kept rises last tried =
    let told = ap (λ (x : List ℕ). between (search_in v) x y) v.resumed ∙ between_by_ids (cloud_in v) (cloud_in_order v.ledger.cloud.now).order (query_in v) (token_in v) y in
    record {
      cloud = ap (λ c. providers_of c.now) same.cloud;
      query = ap (λ q. asked_of q.now) same.query;
      token = ap (λ ids. option_map (λ v. v.items) ids) same.after;
      bounded = rw (same.cloud, same.query, same.after) at (subst (λ (ls : List (List ℕ)). v.probes ≤ length (cloud_in v) * length ls) told bounded);
      most = same.most;
      within = within;
      kept = kept;
      rises = rises;
      last = last;
      tried = tried;
    }

-- what one step gives after those before it
pub advances : (w u v : Walk) → Comes w u → Gives u v → StaysWithin u v → Advances w v
advances w u v a b within =
    let p = slice_index v.path.items v.depth in
    let whole : path_in v ++ p ∷ [] ≡ v.path.items = sym (take-suc v.path.items v.depth 0 (omega (arith, v.path_len, v.sound.within))) ∙ take_all (suc v.depth) v.path.items (omega (arith, v.path_len, b.last)) in
    let more = one_more_kept u.probes in
    let rises : Rises w.probes v.probes = subst (Rises w.probes) (sym b.skips.counted) (one_more_rises w.probes u.probes a.kept) in
    let some : 0 < v.probes = let more = one_more_some u.probes in omega (arith, b.skips.counted) in
    let paid : min (w.probes + changed (given_in w) (path_in v ++ p ∷ [])) last_count ≤ one_more u.probes =
    one_more_pays (w.probes + changed (given_in w) (path_in v)) _ u.probes (omega (arith, changed_more (given_in w) (path_in v) p)) (rw b.skips.path a.tried) in
    record {
      roots = b.skips.same.roots ∙ a.same.roots;
      head = sym a.left ∙ b.head;
      tries = tries_told w v (Some v.path.items) (same_then w u v a.same b.skips.same) (within_then w u v a.same.most a.within within) (rw whole at (counted_given (laws_in v) v.sound p b.last)) (omega (arith, a.kept, b.skips.counted)) (λ _. rises) (given_last v some)
          (rw (b.skips.counted, ← whole) paid);
    }

-- what was tried where it gives nothing
tries_end : (w u : Walk) → Comes w u → Tries w None u
tries_end w u a = tries_told w u None a.same a.within (counted_end (laws_in u) u.sound) a.kept (λ some. absurd (cc)) tt tt

pub finishes : (w u v : Walk) → Comes w u → Ends u v → Finishes w v
finishes w u v a b = subst (Finishes w) (sym b.stays) (record {
  roots = a.same.roots;
  nothing = sym a.left ∙ b.nothing;
  none = b.nothing;
  tries = tries_end w u a;
})

-- it stops before a choice that it may not try: so it may make fewer tries than there are
stops_here : (w : Walk) → place_in w < length (slot_in w) → is_spent (most_in w) w.probes ≡ true → may_stop w
stops_here w among spent = by w.most spent
  where
    lists : length (between (search_in w) w.least.items None) ≡ length (open_between (cloud_in w) (query_in w) (token_in w) None)
    lists = ap length (ap (λ (x : List ℕ). between (search_in w) x None) w.resumed ∙ between_by_ids (cloud_in w) (cloud_in_order w.ledger.cloud.now).order (query_in w) (token_in w) None)

    fewer : w.probes < length (cloud_in w) * length (open_between (cloud_in w) (query_in w) (token_in w) None)
    fewer = subst (λ (n : ℕ). w.probes < length (cloud_in w) * n) lists (counted_more (laws_in w) w.sound among)

    by : (most : Option ℕ) → is_spent most w.probes ≡ true → MayStop most (cloud_in w) (query_in w) (token_in w)
    by None spent = false≢true spent
    by (Some n) spent = let less = fewer in grind (arith, nat_tests)

pub halts_here : (w : Walk) → place_in w < length (slot_in w) → is_spent (most_in w) w.probes ≡ true → Halts w w
halts_here w among spent = record { stays = refl; may = stops_here w among spent; spent = spent }

pub stops : (w u v : Walk) → Comes w u → Halts u v → Stops w v
stops w u v a b = subst (Stops w) (sym b.stays) (record { may = may_same w u a.same b.may; left = a.left; spends = record { tries = tries_end w u a; spent = b.spent } })
