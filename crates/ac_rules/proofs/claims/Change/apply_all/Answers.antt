use Rattle.std.proofs.Common.{◌<◌, ◌∙◌, ◌+◌, drop, length, slice_index, sym, ap, arith}
use Rattle.ac_cloud.specs.Cloud.CloudWorld.{providers_of}
use Rattle.ac_query.specs.Asked.{slots_of}
use Rattle.ac_query.specs.Shown.Queries.{asked_of}
use Rattle.ac_rules.specs.Placed.{placed, slot_at}
use Rattle.ac_rules.specs.Together.{sum_on}
use Rattle.ac_rules.specs.Shown.Changes.{asked_of_one, changed}
use Rattle.ac_rules.proofs.EachSlot.ClaimLemmas.{changed_size, slots_end, slots_more}
use Rattle.ac_rules.proofs.PlacedLemmas.{placed_end}
use Rattle.ac_rules.proofs.claims.Change.apply_all.Goals as goal

pub loop-s-preserved : goal.loop-s-preserved
loop-s-preserved c =
    let s = c.loop-s.s in
    let asked = asked_of c.args.query.now in
    let slots = slots_of asked in
    let list = c.args.list.now in
    let all = providers_of c.loop-s.cloud in
    let inside : s < length list = omega (arith, c.loop-s-test.true) in
    record {
      within = omega (arith, inside);
      many = ap length c.apply_needs.ensures.providers ∙ ap (λ needs. length (changed c.args.self (asked_of_one (slice_index list s) needs) all)) c.needs_at.ensures
          ∙ changed_size c.args.self (asked_of_one (slice_index list s) (slot_at asked s).needs) all ∙ c.loop-s.invariant.many;
      rest = ap (changed c.args.self (sum_on (placed (drop (s + 1) slots) (drop (s + 1) list)))) (c.apply_needs.ensures.providers ∙ ap (λ needs. changed c.args.self (asked_of_one (slice_index list s) needs) all) c.needs_at.ensures)
          ∙ slots_more c.args.self slots list s all inside (omega (arith, inside, c.requires.slots)) ∙ c.loop-s.invariant.rest;
      sizes = c.apply_needs.ensures.sizes ∙ c.loop-s.invariant.sizes;
      root_lists = c.apply_needs.ensures.root_lists ∙ c.loop-s.invariant.root_lists;
    }

pub returns-clause-providers : goal.returns-clause-providers
returns-clause-providers c =
    let all = providers_of c.loop-s.cloud in
    let none = placed_end (slots_of (asked_of c.args.query.now)) c.args.list.now c.loop-s.s c.loop-s-test.false in
    sym (slots_end c.args.self all) ∙ ap (λ xs. changed c.args.self (sum_on xs) all) (sym none) ∙ c.loop-s.invariant.rest
