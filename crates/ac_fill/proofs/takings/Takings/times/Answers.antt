use Rattle.std.proofs.Common.{◌≡◌, ◌∙◌, ◌<◌, ◌+◌, ◌*◌, ◌^◌, ◌&&◌, ℕ, List, ◌∷◌, drop, nat_lt, slice_index, sym, ap, subst, arith, refl}
use Rattle.std.specs.List.{list_all, AllByRecursion as Each}
use Rattle.ac_cloud.specs.Cloud.CloudWorld.{providers_of}
use Rattle.ac_cloud.specs.World.{provider_at, used_of}
use Rattle.ac_query.specs.Asked.{Asked, slots_of}
use Rattle.ac_rules.specs.Placed.{Placed, assigned, no_slot, placed, placed_at}
use Rattle.ac_rules.specs.Shown.Assignments.{assigned_of}
use Rattle.ac_rules.specs.Together.{holds_sums, sum_on, sums}
use Rattle.ac_rules.proofs.PlacedLemmas.{placed_end, placed_more, placed_whole}
use Rattle.ac_fill.specs.Shown.{asked_in, taken_in, with_more, NeedTimesFit}
use Rattle.ac_fill.proofs.Taken.{each_sum}
use Rattle.ac_fill.proofs.Times.{first_factor, least_end, least_more, least_start, second_factor}
use Rattle.ac_fill.proofs.takings.Takings.times.Goals as goal

pub loop-s-init : goal.loop-s-init
loop-s-init c =
    let all = providers_of c.args.assignment.now.cloud.now in
    let self = c.args.self.now in
    let xs = assigned_of c.args.assignment.now in
    let list = c.args.assignment.now.list.now in
    let slots = slots_of (asked_in self) in
    let fit = λ (n : ℕ) (x : Placed). Each (NeedTimesFit all self xs n x.provider) x.slot.needs in
    let start : placed (drop 0 slots) (drop 0 list) ≡ xs = placed_whole slots list 0 refl ∙ ap (λ (a : Asked). assigned a list) (sym c.requires.query) in
    record {
      room = λ k below.
          let keeps = holds_sums (with_more self xs k all) xs in least_start k (list_all keeps (placed (drop 0 slots) (drop 0 list))) below ∙ ap (list_all keeps) start;
      small = λ n some often fitting. subst (Each (fit n)) start fitting;
    }

pub loop-s-preserved : goal.loop-s-preserved
loop-s-preserved c =
    let all = providers_of c.args.assignment.now.cloud.now in
    let self = c.args.self.now in
    let xs = assigned_of c.args.assignment.now in
    let list = c.args.assignment.now.list.now in
    let slots = slots_of (asked_in self) in
    let s = c.loop-s.s in
    let fit = λ (n : ℕ) (x : Placed). Each (NeedTimesFit all self xs n x.provider) x.slot.needs in
    let here = placed_at (asked_in self) s (slice_index list s) in
    let rest = placed (drop (s + 1) slots) (drop (s + 1) list) in
    let first : placed (drop s slots) (drop s list) ≡ here ∷ rest = placed_more slots list s no_slot (omega (arith, c.loop-s-test.true)) (omega (arith, c.loop-s-test.true, c.requires.slots)) in
    record {
      room = λ k below.
          let keeps = holds_sums (with_more self xs k all) xs in
          ap (λ (t : ℕ). nat_lt k t && list_all keeps rest) c.min-times.ensures
          ∙ least_more k c.loop-s.times c.times_at.result (keeps here) (list_all keeps rest) (list_all keeps xs) (c.times_at.ensures.room k below)
          (subst (λ (l : List Placed). (nat_lt k c.loop-s.times && list_all keeps l) ≡ list_all keeps xs) first (c.loop-s.invariant.room k below));
      small = λ n some often fitting.
          c.loop-s.invariant.small n some (omega (arith, often, c.min-times.ensures))
          (subst (Each (fit n)) (sym first) (c.times_at.ensures.small n some (omega (arith, often, c.min-times.ensures)), fitting));
    }

pub returns-clause-room : goal.returns-clause-room
unfolding sums
returns-clause-room c = λ k below.
    let xs = assigned_of c.args.assignment.now in
    let keeps = holds_sums (with_more c.args.self.now xs k (providers_of c.args.assignment.now.cloud.now)) xs in
    let end = placed_end (slots_of (asked_in c.args.self.now)) c.args.assignment.now.list.now c.loop-s.s c.loop-s-test.false in
    least_end (nat_lt k c.loop-s.times) (list_all keeps xs) (subst (λ (l : List Placed). (nat_lt k c.loop-s.times && list_all keeps l) ≡ list_all keeps xs) end (c.loop-s.invariant.room k below))

pub returns-clause-small : goal.returns-clause-small
returns-clause-small c = λ n often p class some.
    let all = providers_of c.args.assignment.now.cloud.now in
    let self = c.args.self.now in
    let xs = assigned_of c.args.assignment.now in
    let fit = λ (x : Placed). Each (NeedTimesFit all self xs n x.provider) x.slot.needs in
    let end = placed_end (slots_of (asked_in self)) c.args.assignment.now.list.now c.loop-s.s c.loop-s-test.false in
    each_sum (λ q d. used_of (provider_at all q) d + (taken_in self q d + n * sum_on xs q d) < 2 ^ 64) xs
    (c.loop-s.invariant.small n (first_factor n (sum_on xs p class) some) often (subst (Each fit) (sym end) tt)) p class (second_factor n (sum_on xs p class) some)
