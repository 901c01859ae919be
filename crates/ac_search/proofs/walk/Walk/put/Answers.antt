use Rattle.std.proofs.Common.{◌∙◌, length-set}
use Rattle.std.proofs.lemmas.List.{take-set}
use Rattle.ac_search.proofs.walk.Walk.put.Goals as goal

pub invariant_of-self-clause-path_len : goal.invariant_of-self-clause-path_len
invariant_of-self-clause-path_len c = let w = c.args.self.now in length-set w.path.items w.depth c.args.provider ∙ w.path_len

pub invariant_of-self-clause-accounted : goal.invariant_of-self-clause-accounted
invariant_of-self-clause-accounted c = let w = c.args.self.now in rw (take-set w.path.items w.depth c.args.provider) w.accounted

pub invariant_of-self-clause-sound : goal.invariant_of-self-clause-sound
invariant_of-self-clause-sound c = let w = c.args.self.now in rw (take-set w.path.items w.depth c.args.provider) w.sound
