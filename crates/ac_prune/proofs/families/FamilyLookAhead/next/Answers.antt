use Rattle.std.proofs.Common.{◌≡◌, ◌∙◌, ℕ, true, slice_index, sym, subst, arith}
use Rattle.ac_prune.specs.Trees.Keys.{key_of, is_there}
use Rattle.ac_prune.proofs.Paths.FrontLemmas.{choice_inside}
use Rattle.ac_prune.proofs.Roots.FamilyLemmas.{choices_by_part, first_part, elsewhere_leads_nowhere}
use Rattle.ac_prune.proofs.families.FamilyLookAhead.next.Goals as goal

pub returns-else-index-part-clause-within : goal.returns-else-index-part-clause-within
returns-else-index-part-clause-within c =
    omega (arith, (choices_by_part c.args.front.now c.args.self.now c.index-places.result.now c.requires.of c.index-places.ensures).count, c.next_in.ensures.within)

pub returns-else-index-part-clause-dead : goal.returns-else-index-part-clause-dead
returns-else-index-part-clause-dead c = λ i above less.
    let family = c.args.self.now in
    let f = c.args.front.now in
    let places = c.index-places.result.now in
    let by = choices_by_part f family places c.requires.of c.index-places.ensures in
    let part = c.index-part.result.now in
    elsewhere_leads_nowhere f family (slice_index f.choices.now i) c.index.result.now c.requires.of c.index.ensures c.if-not-index.false c.if-self-s.false
    (λ same.
    let there : is_there places.keys.items (key_of part i) ≡ true =
    subst (λ (x : ℕ). is_there places.keys.items (key_of x i) ≡ true) (same ∙ sym (first_part f family part c.requires.of c.if-self-s.false c.index-part.ensures)) (by.placed i (omega (arith, less, c.next_in.ensures.within))) in
    omega (arith, less, c.next_in.ensures.passed i above there))

pub bounds-front-from : goal.bounds-front-from
bounds-front-from c =
    omega (arith, (choices_by_part c.args.front.now c.args.self.now c.index-places.result.now c.requires.of c.index-places.ensures).count, c.if-from-places.true)

pub index-requires-then-from-places : goal.index-requires-then-from-places
index-requires-then-from-places c =
    let places = (choices_by_part c.args.front.now c.args.self.now c.index-places.result.now c.requires.of c.index-places.ensures).count in
    omega (arith, choice_inside c.args.front.now c.args.from (omega (arith, places, c.if-from-places.true)), c.requires.of.count, c.args.self.now.parts.ok)
