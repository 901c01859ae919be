use Rattle.std.proofs.Common.{◌≡◌, ◌∙◌, ◌+◌, nat_le, sym, ap, ap₂, arith}
use Rattle.ac_base.specs.Names.{class_bytes}
use Rattle.ac_base.specs.Quantities.{capacity}
use Rattle.ac_cloud.specs.Cloud.CloudWorld.{providers_of}
use Rattle.ac_fill.specs.Shown.{taken_in, with_taken}
use Rattle.ac_fill.proofs.Taken.{both_tests, first_fails, room_nowhere, room_taken}
use Rattle.ac_fill.proofs.takings.Takings.has_room_for.Goals as goal

pub returns-then-sum-from-clause-room : goal.returns-then-sum-from-clause-room
unfolding with_taken
returns-then-sum-from-clause-room c =
    let inventory = c.in-Some.inventory.now in
    let taken = taken_in c.args.self.now c.args.ix (class_bytes c.args.class.now) in
    let sum = c.args.sum in
    ap₂ nat_le (omega (arith, c.from.ensures, c.from-in-Some.ensures, c.taken.ensures)) (c.from-then-sum-from.ensures ∙ c.capacity.ensures.value)
    ∙ (both_tests sum inventory.max_unit (c.used.result + taken + sum) (capacity inventory) (omega (arith, c.if-sum-from.true, c.from-in-Some-2.ensures, c.max_unit.ensures))
    ∙ sym (room_taken (providers_of c.args.cloud.now) (taken_in c.args.self.now) c.args.ix sum (class_bytes c.args.class.now) inventory c.used.result c.in-Some.ensures c.used.ensures))

pub returns-else-sum-from-clause-room : goal.returns-else-sum-from-clause-room
unfolding with_taken
returns-else-sum-from-clause-room c =
    let inventory = c.in-Some.inventory.now in
    let taken = taken_in c.args.self.now c.args.ix (class_bytes c.args.class.now) in
    let sum = c.args.sum in
    let most : c.from-in-Some-2.result ≡ inventory.max_unit = c.from-in-Some-2.ensures ∙ c.max_unit.ensures in
    ap (nat_le sum) most
    ∙ (first_fails sum inventory.max_unit (nat_le (c.used.result + taken + sum) (capacity inventory)) (omega (arith, c.if-sum-from.false, most))
    ∙ sym (room_taken (providers_of c.args.cloud.now) (taken_in c.args.self.now) c.args.ix sum (class_bytes c.args.class.now) inventory c.used.result c.in-Some.ensures c.used.ensures))

pub returns-in-None-clause-room : goal.returns-in-None-clause-room
unfolding with_taken
returns-in-None-clause-room c = sym (room_nowhere (providers_of c.args.cloud.now) (taken_in c.args.self.now) c.args.ix c.args.sum (class_bytes c.args.class.now) c.in-None.ensures)
