use Rattle.std.proofs.Common.{◌∙◌, ◌+◌, ◌*◌, ℕ, List, map, drop, ap, arith, sym, subst}
use Rattle.std.specs.List.{AllByRecursion as Each}
use Rattle.ac_query.specs.Shown.Groups.{need_entry}
use Rattle.ac_rules.specs.Room.{IsKnown}
use Rattle.ac_rules.specs.Shown.Changes.{asked_of_one}
use Rattle.ac_fill.specs.Shown.{taken_in, texts_in}
use Rattle.ac_fill.proofs.Taken.{fits_one, next_need, times_needs}
use Rattle.ac_fill.proofs.takings.Takings.take_needs.Goals as goal

pub take_need-requires-clause-class : goal.take_need-requires-clause-class
take_need-requires-clause-class c =
    let first = next_need c.args.needs.now c.loop-need.need-index c.need-item.result c.loop-need-test.true c.need-item.is in
    let texts = texts_in c.args.self.now in
    rw c.loop-need.invariant.same.classes (subst (Each (λ (need : List ℕ × ℕ). IsKnown texts need.0)) first c.loop-need.invariant.known).0

pub take_need-requires-clause-small : goal.take_need-requires-clause-small
take_need-requires-clause-small c = λ some.
    let start = c.args.self.now in
    let now = c.loop-need.self in
    let ix = c.args.ix in
    let need = need_entry c.need-item.result in
    let rest = map need_entry (drop (c.loop-need.need-index + 1) c.args.needs.now) in
    let first = next_need c.args.needs.now c.loop-need.need-index c.need-item.result c.loop-need-test.true c.need-item.is in
    fits_one c.args.times (taken_in now ix need.0) (taken_in start ix need.0) ix need rest (map need_entry c.args.needs.now)
    (ap (λ (l : List (List ℕ × ℕ)). taken_in now ix need.0 + c.args.times * asked_of_one ix l ix need.0) (sym first) ∙ c.loop-need.invariant.taken ix need.0 c.requires.provider)
    (c.loop-need.invariant.grown ix need.0 c.requires.provider) (c.requires.small need.0) some

pub loop-need-preserved : goal.loop-need-preserved
loop-need-preserved c =
    let first = next_need c.args.needs.now c.loop-need.need-index c.need-item.result c.loop-need-test.true c.need-item.is in
    let texts = texts_in c.args.self.now in
    let need = need_entry c.need-item.result in
    let rest = map need_entry (drop (c.loop-need.need-index + 1) c.args.needs.now) in
    let same = c.loop-need.invariant.same in
    let step = c.take_need.ensures.same in
    record {
      same = record { query = step.query ∙ same.query; classes = step.classes ∙ same.classes; count = step.count ∙ same.count };
      known = (subst (Each (λ (need : List ℕ × ℕ). IsKnown texts need.0)) first c.loop-need.invariant.known).1;
      grown = λ p class inside.
          let more = c.take_need.ensures.taken p class (omega (arith, inside, same.count)) in
          let before = c.loop-need.invariant.grown p class inside in omega (arith, more, before);
      taken = λ p class inside.
          let more = c.take_need.ensures.taken p class (omega (arith, inside, same.count)) in
          let split = times_needs c.args.times c.args.ix need rest p class in
          let before = ap (λ (l : List (List ℕ × ℕ)). c.args.times * asked_of_one c.args.ix l p class) first in
          omega (arith, more, split, before, c.loop-need.invariant.taken p class inside);
    }
