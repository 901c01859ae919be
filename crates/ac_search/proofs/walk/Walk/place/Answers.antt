use Rattle.std.proofs.Common.{◌≡◌, ◌+◌, ℕ, suc, [], ◌∷◌, ◌++◌, take, set, refl, sym, ap, ◌∙◌, arith, get_or-set_same, length-set, length-append}
use Rattle.std.proofs.Math.Seq.{take-suc, take-suc-set}
use Rattle.std.proofs.lemmas.List.{take-set}
use Rattle.ac_search.specs.Shown.Walk.{search_in, place_in, path_in, front_in, changed}
use Rattle.ac_search.specs.declared.walk.Walk.{Walk}
use Rattle.ac_search.specs.Search.Steps.{IsNext}
use Rattle.ac_prune.specs.Search.{next_at}
use Rattle.ac_search.proofs.Search.FrontOrder.{lex_longer}
use Rattle.ac_search.proofs.Search.BoundLemmas.{left_place}
use Rattle.ac_search.proofs.Steps.ChangeLemmas.{changed_more, one_more_kept, one_more_most, one_more_some, one_more_pays}
use Rattle.ac_search.proofs.Steps.MoveLemmas.{sound_place}
use Rattle.ac_search.proofs.Steps.PathLemmas.{next_within}
use Rattle.ac_search.proofs.Steps.StepLemmas.{laws_in}
use Rattle.ac_search.proofs.walk.Walk.place.Goals as goal

-- the path with the next choice behind it, and the places of its choices
front_put : (w : Walk) (p : ℕ) → IsNext w p → take (suc w.depth) (set w.path.items w.depth p) ≡ front_in w
front_put w p next = take-suc-set w.path.items w.depth p (omega (arith, w.path_len, w.sound.within)) ∙ ap (λ (r : ℕ). path_in w ++ r ∷ []) next.is

used_put : (w : Walk) (k : ℕ) → take (suc w.depth) (set w.places.items (suc w.depth) k) ≡ take w.depth w.places.items ++ place_in w ∷ []
used_put w k = take-set w.places.items (suc w.depth) k ∙ take-suc w.places.items w.depth 0 (omega (arith, w.places_len, w.sound.within))

pub take-requires-clause-provider : goal.take-requires-clause-provider
take-requires-clause-provider c = next_within c.args.self.now c.args.provider c.requires.next

pub take-requires-clause-open : goal.take-requires-clause-open
take-requires-clause-open c = rw (c.deref.ensures.value, c.requires.next.is) c.requires.opens

pub invariant_of-self : goal.invariant_of-self
invariant_of-self c =
    let w = c.args.self.now in
    let next : w.depth + 1 ≡ suc w.depth = omega arith in
    let start = c.entry-start.result.0 in
    record {
      resumed = rw (c.take.ensures.same.cloud, c.take.ensures.same.query) w.resumed;
      listed = rw (c.take.ensures.same.cloud, c.take.ensures.same.query) w.listed;
      marked = rw c.take.ensures.same.cloud w.marked;
      looking = rw (c.take.ensures.same.cloud, c.take.ensures.same.query) w.looking;
      path_len = rw c.take.ensures.same.query (length-set w.path.items w.depth c.args.provider ∙ w.path_len);
      places_len = rw c.take.ensures.same.query (length-set w.places.items (w.depth + 1) start ∙ w.places_len);
      accounted = rw (next, front_put w c.args.provider c.requires.next) (rw (c.deref.ensures.value, c.requires.next.is) at c.take.ensures.accounts);
      sound = rw (c.take.ensures.same.cloud, c.take.ensures.same.query, next, front_put w c.args.provider c.requires.next, used_put w start, get_or-set_same w.places.items (suc w.depth) start 0 (omega (arith, w.places_len, c.requires.short)))
          (sound_place (laws_in w) w.sound start c.args.tries c.entry-start.result.1 c.requires.short c.requires.next.among c.requires.opens c.entry-start.ensures
          (omega (arith, c.requires.counted, one_more_most w.probes)) (omega (arith, c.requires.counted, one_more_some w.probes)));
    }

pub returns-clause-goes : goal.returns-clause-goes
returns-clause-goes c =
    let w = c.args.self.now in
    let m = search_in w in
    let next : w.depth + 1 ≡ suc w.depth = omega arith in
    let start = c.entry-start.result.0 in
    let there = get_or-set_same w.places.items (suc w.depth) start 0 (omega (arith, w.places_len, c.requires.short)) in
    let front = front_put w c.args.provider c.requires.next in
    let p = next_at m w.depth (place_in w) in
    record {
      same = record { cloud = c.take.ensures.same.cloud; query = c.take.ensures.same.query; after = refl; least = refl; roots = refl; most = refl };
      left = rw (c.take.ensures.same.cloud, c.take.ensures.same.query, next, front, there)
          (sym (left_place m w.least.items (front_in w) (suc w.depth) start c.entry-start.result.1 (length-append (path_in w) (p ∷ []) ∙ omega (arith, w.sound.long)) c.requires.short c.entry-start.ensures));
      up = rw (c.take.ensures.same.cloud, c.take.ensures.same.query, next, front, there) (lex_longer (front_in w) (next_at m (suc w.depth) start) []);
      kept = omega (arith, c.requires.counted, one_more_kept w.probes);
      counted = λ _. c.requires.counted;
      tried = λ x n h. rw (next, c.requires.counted, front) (one_more_pays (n + changed x (path_in w)) (n + changed x (front_in w)) w.probes (omega (arith, changed_more x (path_in w) p)) h);
    }
