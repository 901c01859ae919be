use Rattle.std.proofs.Common.{arith}
use Rattle.ac_fill.proofs.takings.Takings.take.Goals as goal

pub take_times-requires-clause-small : goal.take_times-requires-clause-small
take_times-requires-clause-small c = λ p class some.
    let fits = c.requires.small p class (omega (arith, some)) in omega (arith, fits)

pub returns-clause-taken : goal.returns-clause-taken
returns-clause-taken c = λ p class inside.
    let more = c.take_times.ensures.taken p class inside in omega (arith, more)
