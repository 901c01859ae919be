use Rattle.std.proofs.Common.{◌∙◌, length, Some, refl, ap, arith}
use Rattle.std.specs.Vec.{with_items}
use Rattle.std.proofs.lemmas.List.{with_items_is}
use Rattle.ac_prune.specs.Search.{choices_at}
use Rattle.ac_search.specs.Shown.Walk.{cloud_in, query_in, front_in}
use Rattle.ac_search.proofs.Search.StandLemmas.{left_fewer}
use Rattle.ac_search.proofs.Steps.LeaveLemmas.{AreLeft, are_fewer, sound_at_roots}
use Rattle.ac_search.proofs.walk.Walk.leave_roots.Goals as goal

pub invariant_of-self : goal.invariant_of-self
invariant_of-self c =
    let w = c.args.self.now in
    let items = with_items_is c.in-Some.marks c.leave.new.marks (c.leave.auto.marks ∙ omega (arith, ap length c.deref_mut.ensures.value, c.in-Some.marks.ok)) in
    record {
      resumed = w.resumed;
      listed = w.listed;
      looking = w.looking;
      path_len = w.path_len;
      places_len = w.places_len;
      marked = ap length items ∙ (c.leave.auto.marks ∙ (ap length c.deref_mut.ensures.value ∙ rw c.in-Some.is at w.marked));
      sound = sound_at_roots (cloud_in w) (query_in w) (Some c.in-Some.marks.items) (Some (with_items c.in-Some.marks c.leave.new.marks).items) (rw c.in-Some.is at w.sound);
      accounted = w.accounted;
    }

pub returns-in-Some : goal.returns-in-Some
unfolding choices_at
returns-in-Some c =
    let w = c.args.self.now in
    let items = with_items_is c.in-Some.marks c.leave.new.marks (c.leave.auto.marks ∙ omega (arith, ap length c.deref_mut.ensures.value, c.in-Some.marks.ok)) in
    let left : AreLeft (cloud_in w) w.path.items (Some c.in-Some.marks.items) (Some c.leave.new.marks) = rw (c.deref.ensures.value, c.deref_mut.ensures.value) at c.leave.ensures in
    record {
      some = refl;
      cloud = refl;
      query = refl;
      path = refl;
      stops = λ may. may;
      left = rw (c.in-Some.is, items) (left_fewer (cloud_in w) (query_in w) c.in-Some.marks.items c.leave.new.marks (are_fewer (cloud_in w) w.path.items _ _ left) w.least.items (front_in w));
      roots = rw (c.in-Some.is, items) left;
    }
