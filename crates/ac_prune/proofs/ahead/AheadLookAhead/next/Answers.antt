use Rattle.std.proofs.Common.{length}
use Rattle.ac_prune.proofs.Paths.FrontLemmas.{path_leads_nowhere}
use Rattle.ac_prune.proofs.ahead.AheadLookAhead.next.Goals as goal

pub returns-then-falls_short-clause-dead : goal.returns-then-falls_short-clause-dead
returns-then-falls_short-clause-dead c = path_leads_nowhere c.args.front.now c.args.from (length c.args.front.now.choices.now) (c.falls_short.ensures c.if-falls_short.true)
