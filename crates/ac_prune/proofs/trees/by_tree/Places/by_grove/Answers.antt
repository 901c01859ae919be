use Rattle.std.proofs.Common.{◌≡◌, ℕ, List, true, slice_index, slice_index_or, inl, inr, ap, arith, subst, sym}
use Rattle.std.specs.Global.{Vec}
use Rattle.std.proofs.lemmas.Bool.{cases_eq}
use Rattle.ac_prune.specs.Trees.Keys.{key_of, is_there}
use Rattle.ac_prune.proofs.Roots.TreeLemmas.{there_new, there_old, there_map}
use Rattle.ac_prune.proofs.trees.by_tree.Places.by_grove.Goals as goal

pub loop-place-preserved : goal.loop-place-preserved
loop-place-preserved c = λ i g h m.
    let lists = c.args.of_providers.now in
    let place = c.loop-place.place in
    let old = c.loop-place.keys.items in
    let row = c.index-of_providers-ix.result in
    subst (λ (keys : List ℕ). is_there keys (key_of g i) ≡ true) (sym c.in_ok-push_keys.ensures)
    (elim (cases_eq i place) [
      | inl e ↦
          let here = subst (λ (j : ℕ). is_there (slice_index_or lists (slice_index c.args.choices.now j) row).items g ≡ true) e (m row) in
          there_new old _ (key_of g i)
          (there_map (λ n. key_of n place) _ g (key_of g i) (rw c.deref.ensures.value (subst (λ (v : Vec ℕ). is_there v.items g ≡ true) (sym c.index-of_providers-ix.is) here)) (ap (key_of g) e))
      | inr e ↦ there_old old _ _ (c.loop-place.invariant i g (omega (arith, h, e)) m)
    ])

pub returns : goal.returns
returns c = record {
  count = c.in_ok-places.ensures.count;
  placed = λ i g h m. c.in_ok-places.ensures.kept _ (c.loop-place.invariant i g (omega (arith, h, c.loop-place.auto.place-end, c.loop-place-test.false)) m);
}
