use Rattle.std.proofs.Common.{◌≡◌, ℕ, List, true, slice_index, inl, inr, arith, subst, sym}
use Rattle.std.proofs.lemmas.Bool.{cases_eq}
use Rattle.ac_cloud.specs.Cloud.CloudWorld.{providers_of}
use Rattle.ac_cloud.specs.World.{is_available_at}
use Rattle.ac_prune.specs.Trees.Keys.{IsUnder}
use Rattle.ac_prune.proofs.Roots.TreeLemmas.{there_old, under_more, under_put}
use Rattle.ac_prune.proofs.trees.by_tree.Places.by_tree.Goals as goal

pub loop-place-preserved : goal.loop-place-preserved
loop-place-preserved c = λ i r h low here.
    let all = providers_of c.args.cloud.now in
    let grove = slice_index c.args.groves.now.of_roots.items r in
    let place = c.loop-place.place in
    let old = c.loop-place.keys.items in
    subst (λ (keys : List ℕ). IsUnder keys grove r i) (sym c.in_ok-push_keys.ensures)
    (elim (cases_eq i place) [
      | inl e ↦
          let there : is_available_at all (slice_index c.args.choices.now place) r ≡ true = subst (λ (j : ℕ). is_available_at all (slice_index c.args.choices.now j) r ≡ true) e here in
          rw e (under_put old c.numbers.result.now grove r place (c.numbers.ensures r low there))
      | inr e ↦ under_more old _ grove r i (there_old old _) (c.loop-place.invariant i r (omega (arith, h, e)) low here)
    ])

pub returns : goal.returns
returns c = record {
  count = c.in_ok-places.ensures.count;
  placed = λ i r h low here.
      under_more c.loop-place.keys.items c.in_ok-places.places.keys.items (slice_index c.args.groves.now.of_roots.items r) r i c.in_ok-places.ensures.kept
      (c.loop-place.invariant i r (omega (arith, h, c.loop-place.auto.place-end, c.loop-place-test.false)) low here);
}
