use Rattle.ac_cloud.proofs.Common.{◌≡◌, ◌<◌, ◌≤◌, ℕ, true, None, length, get_or, map, is_some, list_items, list_of, is_joining, AreAsked, lists_of}
use Rattle.ac_cloud.proofs.cloud.anchors.find_lists.Given as goal

abbrev pub invariant-loop-i : goal.invariant-loop-i
invariant-loop-i l =
    record {
      size : length l.places.items ≡ l.i;
      few : length l.kept.lists.items ≤ l.i;
      joined : AreAsked l.members.roots.now (lists_of l.members.aggregates.now) (map list_items l.members.asked.now) l.kept.lists.items l.places.items;
      marked : (j : ℕ) → j < l.i → is_some (get_or l.places.items j None) ≡ is_joining true (list_of l.members.asked.now j);
    }
