use Rattle.std.proofs.Common.{sym, subst}
use Rattle.std.specs.List.{AllByRecursion as Each}
use Rattle.ac_cloud.specs.Cloud.CloudWorld.{providers_of}
use Rattle.ac_query.specs.Asked.{slots_of}
use Rattle.ac_rules.specs.Placed.{Placed}
use Rattle.ac_rules.specs.Shown.Assignments.{assigned_of}
use Rattle.ac_rules.proofs.PlacedLemmas.{placed_end}
use Rattle.ac_fill.specs.Shown.{asked_in, Fits, NeedFits}
use Rattle.ac_fill.proofs.Taken.{each_sum}
use Rattle.ac_fill.proofs.takings.Takings.has_room.Goals as goal

pub returns-clause-small : goal.returns-clause-small
returns-clause-small c = λ _.
    let t = c.args.self.now in
    let assignment = c.args.assignment.now in
    let all = providers_of assignment.cloud.now in
    let xs = assigned_of assignment in
    each_sum (Fits all t xs) xs
    (c.loop-s.invariant.small (subst (Each (λ (x : Placed). Each (NeedFits all t xs x.provider) x.slot.needs)) (sym (placed_end (slots_of (asked_in t)) assignment.list.now c.loop-s.s c.loop-s-test.false)) tt))
