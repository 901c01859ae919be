use Rattle.std.proofs.Common.{◌+◌, arith, nat_lt}
use Rattle.ac_base.specs.Names.{class_bytes}
use Rattle.ac_cloud.specs.Cloud.CloudWorld.{providers_of}
use Rattle.ac_cloud.specs.World.{provider_at, used_of}
use Rattle.ac_rules.specs.Own.{inventory_of}
use Rattle.ac_fill.specs.Shown.{taken_in}
use Rattle.ac_fill.proofs.Times.{room_nowhere, room_there}
use Rattle.ac_fill.proofs.takings.Takings.times_for.Goals as goal

pub returns-in-Some-clause-room : goal.returns-in-Some-clause-room
returns-in-Some-clause-room c = λ k below.
    let p = provider_at (providers_of c.args.cloud.now) c.args.ix in
    let class = class_bytes c.args.class.now in
    room_there (inventory_of p class) c.in-Some.inventory.now (used_of p class) (taken_in c.args.self.now c.args.ix class) (c.from.result + c.from-in-Some.result) c.args.sum k
    (nat_lt k c.times_in.result) c.in-Some.ensures (omega (arith, c.from.ensures, c.used.ensures, c.from-in-Some.ensures, c.taken.ensures)) (c.times_in.ensures.room k below)

pub returns-in-Some-clause-small : goal.returns-in-Some-clause-small
returns-in-Some-clause-small c = λ n some often.
    let fits = c.times_in.ensures.small n some often in omega (arith, fits, c.from.ensures, c.used.ensures, c.from-in-Some.ensures, c.taken.ensures)

pub returns-in-None-clause-room : goal.returns-in-None-clause-room
returns-in-None-clause-room c = λ k below. room_nowhere _ _ c.args.sum k c.in-None.ensures

pub returns-in-None-clause-small : goal.returns-in-None-clause-small
returns-in-None-clause-small c = λ n some none. absurd (omega (arith, some, none))
