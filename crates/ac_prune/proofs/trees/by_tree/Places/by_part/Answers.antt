use Rattle.std.proofs.Common.{inl, inr, ◌≡◌, ◌∙◌, ◌∷◌, [], ℕ, List, true, slice_index, arith, ap, sym, subst}
use Rattle.std.proofs.lemmas.Bool.{cases_eq, eq-eqb}
use Rattle.ac_prune.specs.Trees.Keys.{key_of, is_there}
use Rattle.ac_prune.proofs.Roots.TreeLemmas.{there_new, there_old, or_left}
use Rattle.ac_prune.proofs.trees.by_tree.Places.by_part.Goals as goal

pub loop-place-preserved : goal.loop-place-preserved
loop-place-preserved c = λ i h.
    let place : ℕ → ℕ = λ j. key_of (slice_index c.args.parts.now (slice_index c.args.choices.now j)) j in
    let old = c.loop-place.keys.items in
    subst (λ (ks : List ℕ). is_there ks (place i) ≡ true) (sym c.in_ok-push.ensures.items)
    (elim (cases_eq i c.loop-place.place) [
      | inl e ↦ there_new old (c.key.result ∷ []) (place i) (or_left _ _ (eq-eqb c.key.result (place i) (c.key.ensures ∙ ap place (sym e))))
      | inr e ↦ there_old old (c.key.result ∷ []) (place i) (c.loop-place.invariant i (omega (arith, h, e)))
    ])

pub returns : goal.returns
returns c = record {
  count = omega (arith, c.in_ok-places.ensures.count);
  placed = λ i h. c.in_ok-places.ensures.kept _ (c.loop-place.invariant i (omega (arith, h, c.in_ok-places.ensures.count, c.loop-place.auto.place-end, c.loop-place-test.false)));
}
