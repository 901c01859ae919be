use Rattle.std.proofs.Common.{◌≡◌, ◌∙◌, ◌<◌, ◌+◌, ◌*◌, ◌^◌, ◌&&◌, ℕ, List, [], map, drop, nat_lt, slice_index, sym, ap, subst, arith}
use Rattle.std.specs.List.{list_all, AllByRecursion as Each}
use Rattle.std.proofs.lemmas.List.{drop_all}
use Rattle.ac_base.specs.Names.{class_bytes}
use Rattle.ac_cloud.specs.Cloud.CloudWorld.{providers_of}
use Rattle.ac_cloud.specs.World.{provider_at, used_of}
use Rattle.ac_query.specs.Shown.Groups.{need_entry}
use Rattle.ac_rules.specs.Room.{IsKnown}
use Rattle.ac_rules.specs.Shown.Assignments.{assigned_of}
use Rattle.ac_rules.specs.Together.{holds, holds_sums, sum_on}
use Rattle.ac_fill.specs.Shown.{has_room_beside, taken_in, texts_in, with_more, NeedTimesFit}
use Rattle.ac_fill.proofs.Taken.{next_need}
use Rattle.ac_fill.proofs.Times.{holds_beside, least_end, least_more}
use Rattle.ac_fill.proofs.takings.Takings.times_at.Goals as goal

pub loop-need-preserved : goal.loop-need-preserved
unfolding with_more
loop-need-preserved c =
    let all = providers_of c.args.assignment.now.cloud.now in
    let self = c.args.self.now in
    let xs = assigned_of c.args.assignment.now in
    let ix = slice_index c.args.assignment.now.list.now c.args.s in
    let p = provider_at all ix in
    let items = c.needs_at-need-items.result.now in
    let need = need_entry c.need-item.result in
    let first = next_need items c.loop-need.need-index c.need-item.result c.loop-need-test.true c.need-item.is in
    let rest = map need_entry (drop (c.loop-need.need-index + 1) items) in
    let class = class_bytes c.class-class.result.now in
    record {
      room = λ k below.
          let fits = λ (need : List ℕ × ℕ). holds (provider_at (with_more self xs k all) ix) need.0 (sum_on xs ix need.0) in
          let told : has_room_beside p class (taken_in self ix class + k * sum_on xs ix class) (sum_on xs ix class) ≡ nat_lt k c.times_for.result =
          subst (λ (m : ℕ). has_room_beside p class (taken_in self ix class + k * m) m ≡ nat_lt k c.times_for.result) c.sum_on-sum.ensures (c.times_for.ensures.room k below) in
          let here : fits need ≡ nat_lt k c.times_for.result =
          holds_beside all (λ q d. taken_in self q d + k * sum_on xs q d) ix (sum_on xs ix need.0) need.0
          ∙ subst (λ (d : List ℕ). has_room_beside p d (taken_in self ix d + k * sum_on xs ix d) (sum_on xs ix d) ≡ nat_lt k c.times_for.result) c.class-class.ensures told in
          ap (λ (t : ℕ). nat_lt k t && list_all fits rest) c.min-times.ensures
          ∙ least_more k c.loop-need.times c.times_for.result (fits need) (list_all fits rest) (list_all fits (map need_entry items)) here
          (subst (λ (l : List (List ℕ × ℕ)). (nat_lt k c.loop-need.times && list_all fits l) ≡ list_all fits (map need_entry items)) first (c.loop-need.invariant.room k below));
      small = λ n some often fitting.
          let told : used_of p class + (taken_in self ix class + n * sum_on xs ix class) < 2 ^ 64 =
          subst (λ (m : ℕ). used_of p class + (taken_in self ix class + n * m) < 2 ^ 64) c.sum_on-sum.ensures (c.times_for.ensures.small n some (omega (arith, often, c.min-times.ensures))) in
          let here = subst (λ (d : List ℕ). used_of p d + (taken_in self ix d + n * sum_on xs ix d) < 2 ^ 64) c.class-class.ensures told in
          c.loop-need.invariant.small n some (omega (arith, often, c.min-times.ensures)) (subst (Each (NeedTimesFit all self xs n ix)) (sym first) (here, fitting));
      known = (subst (Each (λ (need : List ℕ × ℕ). IsKnown (texts_in self) need.0)) first c.loop-need.invariant.known).1;
    }

pub returns-clause-room : goal.returns-clause-room
unfolding holds_sums
returns-clause-room c = λ k below.
    let xs = assigned_of c.args.assignment.now in
    let ix = slice_index c.args.assignment.now.list.now c.args.s in
    let world = with_more c.args.self.now xs k (providers_of c.args.assignment.now.cloud.now) in
    let items = c.needs_at-need-items.result.now in
    let fits = λ (need : List ℕ × ℕ). holds (provider_at world ix) need.0 (sum_on xs ix need.0) in
    let end : map need_entry (drop c.loop-need.need-index items) ≡ [] = ap (map need_entry) (drop_all c.loop-need.need-index items c.loop-need-test.false) in
    let whole = least_end (nat_lt k c.loop-need.times) (list_all fits (map need_entry items))
    (subst (λ (l : List (List ℕ × ℕ)). (nat_lt k c.loop-need.times && list_all fits l) ≡ list_all fits (map need_entry items)) end (c.loop-need.invariant.room k below)) in
    subst (λ (l : List (List ℕ × ℕ)). list_all fits l ≡ nat_lt k c.loop-need.times) c.needs_at-need-items.ensures whole

pub returns-clause-small : goal.returns-clause-small
returns-clause-small c = λ n some often.
    let fit = NeedTimesFit (providers_of c.args.assignment.now.cloud.now) c.args.self.now (assigned_of c.args.assignment.now) n (slice_index c.args.assignment.now.list.now c.args.s) in
    let items = c.needs_at-need-items.result.now in
    let end : map need_entry (drop c.loop-need.need-index items) ≡ [] = ap (map need_entry) (drop_all c.loop-need.need-index items c.loop-need-test.false) in
    subst (Each fit) c.needs_at-need-items.ensures (c.loop-need.invariant.small n some often (subst (Each fit) (sym end) tt))
