use Rattle.std.proofs.Common.{◌∙◌, refl, sym}
use Rattle.ac_search.proofs.Steps.EndLemmas.{halts_here}
use Rattle.ac_search.proofs.Steps.StepLemmas.{within_kept, within_more}
use Rattle.ac_search.proofs.walk.Walk.step.Goals as goal

pub returns-in-None-clause-within : goal.returns-in-None-clause-within
returns-in-None-clause-within c = within_kept c.args.self.now c.leave.new.self c.leave.ensures.probes

pub returns-then-is_spent-clause-gives : goal.returns-then-is_spent-clause-gives
returns-then-is_spent-clause-gives c = halts_here c.args.self.now c.in-Some.ensures.among (sym c.is_spent.ensures ∙ c.if-is_spent.true)

pub returns-then-is_spent-clause-within : goal.returns-then-is_spent-clause-within
returns-then-is_spent-clause-within c = within_kept c.args.self.now c.args.self.now refl

pub returns-else-is_spent-clause-within : goal.returns-else-is_spent-clause-within
returns-else-is_spent-clause-within c = within_more c.args.self.now c.probe.new.self (sym c.is_spent.ensures ∙ c.if-is_spent.false) c.probe.ensures.probes
