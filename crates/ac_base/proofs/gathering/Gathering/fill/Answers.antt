use Rattle.std.proofs.Common.{rules}
use Rattle.std.proofs.lemmas.Slice.{overwrites}
use Rattle.ac_base.proofs.Gathers.{filled}
use Rattle.ac_base.proofs.gathering.Gathering.fill.Goals as goal

pub returns-clause-taken : goal.returns-clause-taken
returns-clause-taken g c = filled (g.W.Sink.taken c.args.self.now.sink) _ _ _ _ _ _ (search (rules, overwrites))
