use Rattle.std.proofs.Common.{◌≡◌, ◌+◌, ◌-◌, ℕ, suc, [], ◌∷◌, ◌++◌, take, refl, sym, ap, ◌∙◌, arith, get_or-set_same, length-set}
use Rattle.std.specs.List.{slice_index}
use Rattle.std.proofs.Math.Seq.{take-suc}
use Rattle.std.proofs.lemmas.List.{take-set, get_or_default}
use Rattle.ac_search.specs.Shown.Walk.{search_in, path_in, changed}
use Rattle.ac_prune.proofs.Search.SoughtLemmas.{low_at}
use Rattle.ac_prune.proofs.Roots.TreeLemmas.{few_providers}
use Rattle.ac_search.proofs.Search.BoundLemmas.{last_placed, back_passes, back_rises, left_back}
use Rattle.ac_search.proofs.Steps.ChangeLemmas.{changed_less, fewer_paid}
use Rattle.ac_search.proofs.Steps.MoveLemmas.{sound_back}
use Rattle.ac_search.proofs.Steps.PathLemmas.{deeper, front_deep}
use Rattle.ac_search.proofs.Steps.StepLemmas.{laws_in}
use Rattle.ac_search.proofs.walk.Walk.take_back.Goals as goal

pub give_back-requires-clause-provider : goal.give_back-requires-clause-provider
give_back-requires-clause-provider c =
    let w = c.args.self.now in
    let e = w.depth - 1 in
    let s = deeper w e (omega (arith, c.requires)) in
    let on = last_placed (laws_in w) (take e w.path.items) (take e w.places.items) (slice_index w.path.items e) (slice_index w.places.items e) s in
    let read = c.index.ensures ∙ get_or_default w.path.items e c.index.result.now 0 (omega (arith, w.path_len, s.within)) in
    omega (arith, read, on.1, low_at (search_in w) (laws_in w) e (slice_index w.places.items e) (omega (arith, s.within)) on.0)

pub overflow_add-index_mut : goal.overflow_add-index_mut
overflow_add-index_mut c =
    let w = c.args.self.now in
    let e = w.depth - 1 in
    let s = deeper w e (omega (arith, c.requires)) in
    let on = last_placed (laws_in w) (take e w.path.items) (take e w.places.items) (slice_index w.path.items e) (slice_index w.places.items e) s in
    let read = c.index_mut.ensures.value ∙ get_or_default w.places.items e c.index_mut.result.now 0 (omega (arith, w.places_len, s.within)) in
    omega (arith, read, on.0, (laws_in w).few e (omega (arith, s.within)), few_providers w.ledger.cloud.now)

pub invariant_of-self : goal.invariant_of-self
invariant_of-self c =
    let w = c.args.self.now in
    let e = w.depth - 1 in
    let s = deeper w e (omega (arith, c.requires)) in
    let place = c.index_mut.ensures.value ∙ get_or_default w.places.items e c.index_mut.result.now 0 (omega (arith, w.places_len, s.within)) in
    let a = slice_index w.places.items e in
    record {
      resumed = rw (c.give_back.ensures.same.cloud, c.give_back.ensures.same.query) w.resumed;
      listed = rw (c.give_back.ensures.same.cloud, c.give_back.ensures.same.query) w.listed;
      marked = rw c.give_back.ensures.same.cloud w.marked;
      looking = rw (c.give_back.ensures.same.cloud, c.give_back.ensures.same.query) w.looking;
      path_len = rw c.give_back.ensures.same.query w.path_len;
      places_len = rw c.give_back.ensures.same.query (length-set w.places.items e _ ∙ w.places_len);
      accounted = rw c.deref.ensures.value at c.give_back.ensures.accounts;
      sound = rw (c.give_back.ensures.same.cloud, c.give_back.ensures.same.query, place, take-set w.places.items e (a + 1), get_or-set_same w.places.items e (a + 1) 0 (omega (arith, w.places_len, s.within)))
          (sound_back (laws_in w) (take e w.path.items) (take e w.places.items) (slice_index w.path.items e) a s);
    }

pub returns : goal.returns
returns c =
    let w = c.args.self.now in
    let e = w.depth - 1 in
    let deep : w.depth ≡ suc e = omega (arith, c.requires) in
    let s = deeper w e deep in
    let q = take e w.path.items in
    let used = take e w.places.items in
    let p = slice_index w.path.items e in
    let a = slice_index w.places.items e in
    let place = c.index_mut.ensures.value ∙ get_or_default w.places.items e c.index_mut.result.now 0 (omega (arith, w.places_len, s.within)) in
    let there = get_or-set_same w.places.items e (a + 1) 0 (omega (arith, w.places_len, s.within)) in
    let path : path_in w ≡ q ++ p ∷ [] = ap (λ (i : ℕ). take i w.path.items) deep ∙ take-suc w.path.items e 0 (omega (arith, w.path_len, s.within)) in
    record {
      same = record { cloud = c.give_back.ensures.same.cloud; query = c.give_back.ensures.same.query; after = refl; least = refl; roots = refl; most = refl };
      depth = deep;
      passes = rw (c.give_back.ensures.same.cloud, c.give_back.ensures.same.query, place, there, front_deep w e deep, path) (back_passes (laws_in w) q used p a s);
      ended = λ end. rw (c.give_back.ensures.same.cloud, c.give_back.ensures.same.query, place, there, front_deep w e deep) (sym (left_back (laws_in w) q used p a s (rw deep at end)));
      up = rw (c.give_back.ensures.same.cloud, c.give_back.ensures.same.query, place, there, front_deep w e deep) (back_rises (laws_in w) q used p a s);
      kept = refl;
      tried = λ x n h. fewer_paid (n + changed x (q ++ p ∷ [])) (n + changed x q) w.probes (omega (arith, changed_less x q p)) (rw path at h);
    }
