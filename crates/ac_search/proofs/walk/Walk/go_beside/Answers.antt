use Rattle.ac_search.proofs.Steps.PassLemmas.{among_there, dead_there}
use Rattle.ac_search.proofs.walk.Walk.go_beside.Goals as goal

pub returns-clause-among : goal.returns-clause-among
returns-clause-among c h = among_there c.args.self.now c.go_on.new.self _ c.go_on.ensures.passes c.go_on.ensures.at (c.look-place.ensures.among h)

pub returns-clause-dead : goal.returns-clause-dead
returns-clause-dead c h = dead_there c.args.self.now c.go_on.new.self _ c.go_on.ensures.passes c.go_on.ensures.at (c.look-place.ensures.dead h)
