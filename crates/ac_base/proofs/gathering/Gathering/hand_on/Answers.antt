use Rattle.std.proofs.Common.{rules, arith}
use Rattle.ac_base.proofs.Gathers.{handed}
use Rattle.ac_base.proofs.gathering.Gathering.hand_on.Goals as goal

pub returns-in-Took-clause-taken : goal.returns-in-Took-clause-taken
returns-in-Took-clause-taken g c =
    handed (g.W.Sink.taken c.args.self.now.sink) _ c.in-Took.count _ _ _ _ (search (rules, arith)) (search (rules, arith)) (search (rules, arith))
    c.copy_within.ensures.items (rw (← c.deref.ensures.value) c.in-Took.ensures.bytes.1)
