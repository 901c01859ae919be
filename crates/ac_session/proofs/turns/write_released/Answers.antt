use Rattle.ac_session.proofs.turns.write_released.Goals as goal

pub returns-then-in_use : goal.returns-then-in_use
returns-then-in_use g c = rw c.if-in_use.true c.write_said.ensures

pub returns-else-in_use : goal.returns-else-in_use
returns-else-in_use g c = rw c.if-in_use.false c.write_said-else-in_use.ensures
