use Rattle.std.proofs.Common.{◌≡◌, ◌<◌, ◌≤◌, ◌&&◌, ℕ, drop, nat_lt}
use Rattle.std.specs.List.{list_all, AllByRecursion as Each}
use Rattle.ac_cloud.specs.Cloud.CloudWorld.{providers_of}
use Rattle.ac_query.specs.Asked.{slots_of}
use Rattle.ac_rules.specs.Placed.{Placed, placed}
use Rattle.ac_rules.specs.Shown.Assignments.{assigned_of}
use Rattle.ac_rules.specs.Together.{holds_sums}
use Rattle.ac_fill.specs.Shown.{asked_in, with_more, NeedTimesFit}
use Rattle.ac_fill.proofs.takings.Takings.times.Given as goal

abbrev pub invariant-loop-s : goal.invariant-loop-s
invariant-loop-s l =
    let all = providers_of l.assignment.cloud.now in
    let xs = assigned_of l.assignment in
    let left = placed (drop l.s (slots_of (asked_in l.self))) (drop l.s l.assignment.list.now) in
    let fit = λ (n : ℕ) (x : Placed). Each (NeedTimesFit all l.self xs n x.provider) x.slot.needs in
    record {
      room : (k : ℕ) → k < 4294967295 → (nat_lt k l.times && list_all (holds_sums (with_more l.self xs k all) xs) left) ≡ list_all (holds_sums (with_more l.self xs k all) xs) xs;
      small : (n : ℕ) → 0 < n → n ≤ l.times → Each (fit n) left → Each (fit n) xs;
    }
