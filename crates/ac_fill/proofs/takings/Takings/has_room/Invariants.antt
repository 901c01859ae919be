use Rattle.std.proofs.Common.{◌≡◌, drop}
use Rattle.std.specs.List.{list_all, AllByRecursion as Each}
use Rattle.ac_cloud.specs.Cloud.CloudWorld.{providers_of}
use Rattle.ac_query.specs.Asked.{slots_of}
use Rattle.ac_rules.specs.Placed.{Placed, placed}
use Rattle.ac_rules.specs.Shown.Assignments.{assigned_of}
use Rattle.ac_rules.specs.Together.{holds_sums}
use Rattle.ac_fill.specs.Shown.{asked_in, with_taken, NeedFits}
use Rattle.ac_fill.proofs.takings.Takings.has_room.Given as goal

abbrev pub invariant-loop-s : goal.invariant-loop-s
invariant-loop-s l =
    let all = providers_of l.assignment.cloud.now in
    let xs = assigned_of l.assignment in
    let left = placed (drop l.s (slots_of (asked_in l.self))) (drop l.s l.assignment.list.now) in
    let fit = λ (x : Placed). Each (NeedFits all l.self xs x.provider) x.slot.needs in
    record {
      room : list_all (holds_sums (with_taken l.self all) xs) left ≡ list_all (holds_sums (with_taken l.self all) xs) xs;
      small : Each fit left → Each fit xs;
    }
