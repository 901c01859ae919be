use Rattle.std.proofs.Common.{subst}
use Rattle.ac_base.specs.Writing.{TakesLine}
use Rattle.ac_session.proofs.session.tell_stop.Goals as goal

pub returns-in-Output-clause-line : goal.returns-in-Output-clause-line
returns-in-Output-clause-line g c = rw c.in-Output.is (subst (TakesLine _ _ _ _) c.of.ensures.line c.tell.ensures.line)

pub returns-in-NoMemory-clause-line : goal.returns-in-NoMemory-clause-line
returns-in-NoMemory-clause-line g c = rw c.in-NoMemory.is (subst (TakesLine _ _ _ _) c.of-in-NoMemory.ensures.line c.tell-in-NoMemory.ensures.line)
