use Rattle.ac_cloud.proofs.Common.{◌≡◌, ◌<◌, ◌+◌, ◌∙◌, ℕ, List, Option, None, map, length, get_or, sym, ap, subst, true, arith, is_some, lists_of, list_items, list_of, is_joining, AreAsked}
use Rattle.std.proofs.lemmas.List.{length_push}
use Rattle.ac_cloud.proofs.Places.AnchorLists.{marked_more}
use Rattle.ac_cloud.proofs.cloud.anchors.find_lists.Goals as goal

pub find_next-requires-clause-joined : goal.find_next-requires-clause-joined
find_next-requires-clause-joined c = rw c.deref.ensures.value c.loop-i.invariant.joined

pub loop-i-preserved : goal.loop-i-preserved
loop-i-preserved c =
    let own = c.args.members.now in
    let asked = own.asked.now in
    let places = c.loop-i.places.items in
    let items = c.in_ok-push.ensures.items in
    let size : length places ≡ c.loop-i.i = c.loop-i.invariant.size in
    let here : is_some c.in_ok-more.place ≡ is_joining true (list_of asked c.loop-i.i) =
    c.in_ok-more.ensures.marked ∙ ap (λ (n : ℕ). is_joining true (list_of asked n)) (ap length c.deref.ensures.value ∙ size) in
    record {
      size = omega (arith, ap length items, length_push places c.in_ok-more.place, size);
      few = omega (arith, c.in_ok-more.ensures.grown, c.loop-i.invariant.few);
      joined = subst (λ (l : List (Option ℕ)). AreAsked own.roots.now (lists_of own.aggregates.now) (map list_items asked) c.in_ok-more.more.lists.items l) (sym items) (rw c.deref.ensures.value at c.in_ok-more.ensures.joined);
      marked = λ (j : ℕ) (h : j < c.loop-i.i + 1).
          ap (λ (l : List (Option ℕ)). is_some (get_or l j None)) items ∙ marked_more places c.in_ok-more.place (λ (k : ℕ). is_joining true (list_of asked k)) c.loop-i.i size c.loop-i.invariant.marked here j h;
    }
