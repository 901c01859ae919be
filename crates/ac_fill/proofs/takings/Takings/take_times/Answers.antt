use Rattle.std.proofs.Common.{◌≡◌, ◌∙◌, ◌<◌, ◌+◌, ◌*◌, ◌^◌, ℕ, List, map, drop, length, slice_index, ap, sym, subst, arith}
use Rattle.ac_query.specs.Asked.{slots_of}
use Rattle.ac_query.specs.Shown.Groups.{need_entry}
use Rattle.ac_rules.specs.Placed.{assigned, placed, slot_at}
use Rattle.ac_rules.specs.Shown.Changes.{asked_of_one}
use Rattle.ac_rules.specs.Together.{amount_of, sum_on}
use Rattle.ac_fill.specs.Shown.{asked_in, count_in, taken_in}
use Rattle.ac_fill.proofs.Taken.{fits_slot, times_slots}
use Rattle.ac_fill.proofs.takings.Takings.take_times.Goals as goal

pub take_needs-requires-clause-small : goal.take_needs-requires-clause-small
take_needs-requires-clause-small c = λ class some.
    let start = c.args.self.now in
    let asked = asked_in start in
    let slots = slots_of asked in
    let list = c.args.list.now in
    let times = c.args.times in
    let s = c.loop-s.s in
    let q = slice_index list s in
    let inside : s < length list = c.loop-s-test.true in
    let here : q < count_in start = c.requires.providers s 0 inside in
    let needs = (slot_at asked s).needs in
    let same : map need_entry c.needs_at.result.now ≡ needs = c.needs_at.ensures in
    let asks : 0 < times * amount_of needs class = subst (λ (l : List (List ℕ × ℕ)). 0 < times * amount_of l class) same some in
    let rest = times * sum_on (placed (drop (s + 1) slots) (drop (s + 1) list)) q class in
    subst (λ (l : List (List ℕ × ℕ)). taken_in c.loop-s.self q class + times * amount_of l class < 2 ^ 64) (sym same)
    (fits_slot times (taken_in c.loop-s.self q class) (taken_in start q class) q rest (times * sum_on (placed (drop s slots) (drop s list)) q class) (times * sum_on (assigned asked list) q class) class needs
    (c.loop-s.invariant.taken q class here) (times_slots times slots list s q class inside (omega (arith, inside, c.requires.slots))) (c.loop-s.invariant.grown q class here) (c.requires.small q class) asks)

pub loop-s-preserved : goal.loop-s-preserved
loop-s-preserved c =
    let asked = asked_in c.args.self.now in
    let list = c.args.list.now in
    let times = c.args.times in
    let s = c.loop-s.s in
    let inside : s < length list = c.loop-s-test.true in
    let same = c.loop-s.invariant.same in
    let step = c.take_needs.ensures.same in
    record {
      within = omega (arith, inside);
      same = record { query = step.query ∙ same.query; classes = step.classes ∙ same.classes; count = step.count ∙ same.count };
      grown = λ p class here.
          let more = c.take_needs.ensures.taken p class (omega (arith, here, same.count)) in
          let before = c.loop-s.invariant.grown p class here in omega (arith, more, before);
      taken = λ p class here.
          let more = c.take_needs.ensures.taken p class (omega (arith, here, same.count)) in
          let needs = ap (λ (l : List (List ℕ × ℕ)). times * asked_of_one (slice_index list s) l p class) c.needs_at.ensures in
          let split = times_slots times (slots_of asked) list s p class inside (omega (arith, inside, c.requires.slots)) in
          let before = c.loop-s.invariant.taken p class here in omega (arith, more, needs, split, before);
    }
